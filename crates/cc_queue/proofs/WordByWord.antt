-- A loop over the words of a body: the places after a step on a word.
use Rattle.std.proofs.Common.{◌≡◌, ℕ, ◌+◌, ◌<◌, ◌≤◌, Bool, true, false, cond, nat_lt, None, ap, ◌∙◌, subst, arith}
use Rattle.std.proofs.lemmas.Bool.{le-ltb, lt-ltb}
use Rattle.cc_queue.specs.Names.{Event, Kind, Phase, Stand}
use Rattle.cc_runs.specs.Codes.{behind}
use Rattle.cc_runs.specs.Lines.{event_at}
use Rattle.cc_runs.specs.State.{chain_of}
use Rattle.cc_runs.specs.Step.{advanced}
use Rattle.cc_steps.specs.Seen.{Onward, settled}
use Rattle.cc_steps.specs.Walk.{Walk, walked_to}
use Rattle.cc_queue.proofs.Service.{one_step}
use Rattle.cc_queue.specs.Work.{Serves, reads, marks, hands, scans}

-- a pass that came to the first place is at the second one, once an answer is taken
abbrev pub Settles : Phase → Phase → Type 0
Settles p q = (z : Stand) → settled (record z { phase = p }) ≡ record z { phase = q }

settles_either : (b : Bool) (p q x y : Phase) → Settles p q → Settles x y → Settles (cond b p x) (cond b q y)
settles_either true p q x y one other = one
settles_either false p q x y one other = other

-- a step that isn't counted
abbrev pub IsUncounted : Kind → Type 0
IsUncounted k = (reads k ≡ 0) × (marks k ≡ 0) × (hands k ≡ 0) × (scans k ≡ 0)

-- one step, which isn't counted
stepped : (v s r : Walk) (k : Kind) (here to on : Phase) (found : ℕ) → Serves v here 0 s → r ≡ walked_to s None found r.seen → Onward s.seen r.seen → event_at here ≡ Event.Did k → IsUncounted k
    → ((z : Stand) → advanced v.setting (chain_of v.setting.config v.number) (record z { phase = here }) found ≡ record z { phase = to }) → Settles to on → Serves v on 0 r
stepped v s r k here to on found at step later event uncounted goes settles =
    subst (λ (n : ℕ). Serves v on n r) (omega (arith, uncounted.3))
    (one_step v s r k here on 0 found at step later event (uncounted.0, uncounted.1, uncounted.2) (λ z. ap settled (goes z) ∙ settles z))

-- a word after others, while there is one left
pub at_word : (v s : Walk) (here on : Phase) (further i : ℕ) → Serves v (behind further i here on) 0 s → i < further → Serves v here 0 s
at_word v s here on further i at less = subst (λ (b : Bool). Serves v (cond b here on) 0 s) (lt-ltb i further less) at

-- what comes after all of them
pub past_words : (v s : Walk) (here on : Phase) (further i : ℕ) → Serves v (behind further i here on) 0 s → further ≤ i → Serves v on 0 s
past_words v s here on further i at all = subst (λ (b : Bool). Serves v (cond b here on) 0 s) (le-ltb i further all) at

-- a step on a word, after which others may come
pub word_step : (v s r : Walk) (k : Kind) (here next last on : Phase) (further i found : ℕ) → Serves v here 0 s → r ≡ walked_to s None found r.seen → Onward s.seen r.seen → event_at here ≡ Event.Did k → IsUncounted k
    → ((z : Stand) → advanced v.setting (chain_of v.setting.config v.number) (record z { phase = here }) found ≡ record z { phase = behind further i next last }) → Settles next next → Settles last on → Serves v (behind further i next on) 0 r
word_step v s r k here next last on further i found at step later event uncounted goes stays ends =
    stepped v s r k here (behind further i next last) (behind further i next on) found at step later event uncounted goes (settles_either (nat_lt i further) next next last on stays ends)

settles_within : {S : Type 0} (f : S → Phase) (b : Bool) (next last : S) → ((x : S) → Settles (f x) (f x)) → Settles (f (cond b next last)) (cond b (f next) (f last))
settles_within f true next last stays = stays next
settles_within f false next last stays = stays last

-- the same within a service, whose phases f makes of its own
pub service_word : {S : Type 0} (f : S → Phase) (v s r : Walk) (k : Kind) (here : Phase) (next last : S) (further i found : ℕ) → Serves v here 0 s → r ≡ walked_to s None found r.seen → Onward s.seen r.seen → event_at here ≡ Event.Did k → IsUncounted k
    → ((z : Stand) → advanced v.setting (chain_of v.setting.config v.number) (record z { phase = here }) found ≡ record z { phase = f (behind further i next last) }) → ((x : S) → Settles (f x) (f x)) → Serves v (behind further i (f next) (f last)) 0 r
service_word f v s r k here next last further i found at step later event uncounted goes stays =
    stepped v s r k here (f (behind further i next last)) (behind further i (f next) (f last)) found at step later event uncounted goes (settles_within f (nat_lt i further) next last stays)

pub next_word : (v s r : Walk) (k : Kind) (here before next last on : Phase) (further i found : ℕ) → Serves v (behind further i here before) 0 s → i < further → r ≡ walked_to s None found r.seen → Onward s.seen r.seen → event_at here ≡ Event.Did k → IsUncounted k
    → ((z : Stand) → advanced v.setting (chain_of v.setting.config v.number) (record z { phase = here }) found ≡ record z { phase = behind further (i + 1) next last }) → Settles next next → Settles last on → Serves v (behind further (i + 1) next on) 0 r
next_word v s r k here before next last on further i found at less step later event uncounted goes stays ends =
    stepped v s r k here (behind further (i + 1) next last) (behind further (i + 1) next on) found (at_word v s here before further i at less) step later event uncounted goes (settles_either (nat_lt (i + 1) further) next next last on stays ends)
