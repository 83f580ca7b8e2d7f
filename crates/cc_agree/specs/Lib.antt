pub mod Names
pub mod OneQueue
pub mod LogOfRun
pub mod SmallOrders
pub mod RealTime
pub mod SmallCalls
