-- Facts of every run that the laws of progress need.
use Rattle.std.proofs.Common.{◌≡◌, ℕ, ◌+◌, ◌<◌, ◌≤◌, ◌++◌, List, length, Ok, ap, subst, arith, length-append}
use Rattle.cc_model.specs.Config.{config_fault}
use Rattle.cc_model.specs.Items.{SideBegins}
use Rattle.cc_runs.specs.Names.{Setting, Chain, Job, Sending, Phase, Move}
use Rattle.cc_runs.specs.State.{State, side}
use Rattle.cc_runs.specs.Run.{passes, IsRun, reached, history_of}
use Rattle.cc_runs.specs.MachineLaws.{scan_reads}
use Rattle.cc_runs.specs.Turns.{IsAmong}
use Rattle.cc_runs.specs.Progress.{calls_after, answers_after}
use Rattle.cc_runs.proofs.Ranges.{in_range}
use Rattle.cc_runs.proofs.Chains.View.{members, pass_on, post_of, post_at}
use Rattle.cc_runs.proofs.Chains.Registers.{calls_on, answers_on, call_at, answer_at, HasSend, HasService}
use Rattle.cc_runs.proofs.Chains.Ties.{ghost_of, Holds}
use Rattle.cc_runs.proofs.Chains.Own.{sends_where}
use Rattle.cc_runs.proofs.Chains.Serving.{chains_hold, sending_where}
use Rattle.cc_runs.proofs.ListRuns.Laws.{scans_are_short}
use Rattle.cc_runs.proofs.RunPrefixes.{prefixes_begin}
use Rattle.cc_runs.proofs.Progress.Among.{open_among}

-- only the senders' combiner serves a send
pub sending_on : (c : Setting) (x : Chain) (s : State) → Holds c x s → (n : ℕ) → n < members c x → (job : Job) (service : Sending) → (s.stand (pass_on c x n)).phase ≡ Phase.Sending job service → x ≡ Chain.Send
sending_on c x s w n inside job service e =
    let rank : (post_at x (s.stand (pass_on c x n))).rank ≡ 5 = ap (λ (z : Phase). (post_of x (s.stand (pass_on c x n)).node z).rank) e in
    let had = subst (λ (z : Phase). HasService c.served x (call_at (calls_on x s.history) (ghost_of w).marked) (answer_at (answers_on x s.history) (ghost_of w).marked) z) e (w.ties.served n (w.inv.server.server_is n inside rank)) in
    (sends_where c.served x (HasSend (call_at (calls_on x s.history) (ghost_of w).marked) (answer_at (answers_on x s.history) (ghost_of w).marked) service) had).1

-- a scan reads each ordinary node once, and a counter has no scan
pub scans_short : (c : Setting) → config_fault c.config ≡ Ok tt → (moves : List Move) → IsRun c moves → (p : ℕ) → p < passes c → scan_reads ((reached c moves).stand p).phase ≤ c.config.capacity + 1
scans_short c checked moves run p inside = by_phase ((reached c moves).stand p).phase (λ job service e. scans_are_short c moves (sending_where c (reached c moves) (chains_hold c (in_range c.config checked).bound.0 moves run) p job service inside e).0 checked run p)
  where
    by_phase : (at : Phase) → ((job : Job) (service : Sending) → at ≡ Phase.Sending job service → scan_reads at ≤ c.config.capacity + 1) → scan_reads at ≤ c.config.capacity + 1
    by_phase at if_sends = grind arith

-- calls that have exchanged stay, and so do answers
side_grows : (c : Setting) (x : Chain) (later seen : List Move) → IsRun c (later ++ seen) → SideBegins (side x (history_of c seen)) (side x (history_of c (later ++ seen)))
side_grows c Chain.Send later seen run = (prefixes_begin c later seen run).1.sends
side_grows c (Chain.Take g) later seen run = (prefixes_begin c later seen run).1.takes g

pub calls_stay : (c : Setting) (x : Chain) (later seen : List Move) → IsRun c (later ++ seen) → calls_after c x seen ≤ calls_after c x (later ++ seen)
calls_stay c x later seen run = let more = (side_grows c x later seen run).calls in omega (arith, ap length more.1, length-append (calls_on x (history_of c seen)) more.0)

pub answers_stay : (c : Setting) (x : Chain) (later seen : List Move) → IsRun c (later ++ seen) → answers_after c x seen ≤ answers_after c x (later ++ seen)
answers_stay c x later seen run = let more = (side_grows c x later seen run).answers in omega (arith, ap length more.1, length-append (answers_on x (history_of c seen)) more.0)

-- the pass of a call without an answer is in it
pub all_answered : (c : Setting) (x : Chain) (s : State) → Holds c x s → (k : ℕ) → k ≤ length (calls_on x s.history) → ((n : ℕ) → n < members c x → IsAmong c x k s n → ⊥) → k ≤ length (answers_on x s.history)
all_answered c x s w k few nobody = grind (arith, w.inv.calls.in_order, nobody ((ghost_of w).pass_of (ghost_of w).marked), w.inv.calls.open_pass (ghost_of w).marked, open_among c x s w k (ghost_of w).marked)
