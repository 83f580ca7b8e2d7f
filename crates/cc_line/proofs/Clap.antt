-- Of clap alone, for a command without subcommands: what its matches are if nothing is wrong with the words. With
-- specs/Number this names nothing of `ccq`.
pub mod Passed
pub mod Defaults
pub mod Numbers
