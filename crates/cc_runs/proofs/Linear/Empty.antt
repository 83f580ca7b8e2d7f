-- A take that finds nothing: its group was handed all that was accepted, and the queue isn't shut.
use Rattle.std.proofs.Common.{◌≡◌, ℕ, ◌+◌, ◌<◌, false, List, length, Ok, ap, ◌∙◌, arith}
use Rattle.cc_model.specs.Config.{config_fault}
use Rattle.cc_model.specs.Items.{accepted, handed, is_shut}
use Rattle.cc_runs.specs.Names.{Config, Chain, ItemField, Word, Job, Phase, Taking, Move}
use Rattle.cc_runs.specs.Words.{groups}
use Rattle.cc_runs.specs.State.{State, chain_of}
use Rattle.cc_runs.specs.Run.{IsRun, reached, history_of}
use Rattle.cc_runs.proofs.Ranges.{in_range}
use Rattle.cc_runs.proofs.ListRuns.View.{Regs, regs_in, regs_of, queue_of}
use Rattle.cc_runs.proofs.ListRuns.Ties.{further, shut_false}
use Rattle.cc_runs.proofs.ListRuns.Facts.{lists}
use Rattle.cc_runs.proofs.ListRuns.Invariant.{ghosts_at}
use Rattle.cc_runs.proofs.ListRuns.Runs.{AfterRun}
use Rattle.cc_runs.proofs.ListRuns.Safe.{take_regs}
use Rattle.cc_runs.proofs.ListRuns.FromChains.{after_runs}
use Rattle.cc_runs.proofs.LinkedList.Decide.{no_more, unshut}

pub empty : (c : Config) → config_fault c ≡ Ok tt → (moves : List Move) → IsRun (lists c) moves → (p y : ℕ) → chain_of c p ≡ Chain.Take y → y < groups c → (job : Job) (dummy taken : ℕ)
    → ((reached (lists c) moves).stand p).phase ≡ Phase.Taking job (Taking.ReadDummyNext dummy taken) → (reached (lists c) moves).mem (Word.Item dummy ItemField.Next) ≡ 0
    → (is_shut (history_of (lists c) moves) ≡ false) × (length (handed (history_of (lists c) moves) y) ≡ length (accepted (history_of (lists c) moves)))
empty c checked moves run p y chain inside job dummy taken stands null =
    let s : State = reached (lists c) moves in
    let a : AfterRun c moves = after_runs c (in_range c checked) moves run in
    let k = a.parts in
    let is : regs_of s.stand k.duty y ≡ regs_in (Taking.ReadDummyNext dummy taken) = take_regs c s p y chain job (Taking.ReadDummyNext dummy taken) stands k in
    let stage : (regs_of s.stand k.duty y).stage ≡ 3 = ap (λ (z : Regs). z.stage) is in
    let at : s.mem (Word.Item (regs_of s.stand k.duty y).dummy ItemField.Next) ≡ 0 = ap (λ (z : Regs). s.mem (Word.Item z.dummy ItemField.Next)) is ∙ null in
    let below : y < further c + 1 = omega (arith, inside, k.ties.some) in (
      shut_false (is_shut s.history) (unshut c.capacity c.life (further c + 1) (queue_of s k.duty) (ghosts_at c s k) k.list y below stage at),
      omega (arith, no_more c.capacity c.life (further c + 1) (queue_of s k.duty) (ghosts_at c s k) k.list y below stage at),
    )
