-- Of the calls of a pass that waits, all but the last one have their answers.
use Rattle.std.proofs.Common.{◌≡◌, ℕ, zero, suc, ◌-◌, ◌≤◌, ◌==◌, Bool, true, false, nat_lt, List, [], ◌∷◌, ◌++◌, map, length, take, Some, None, if◌then◌else◌, refl, sym, ap, ◌∙◌, subst, arith, length-append}
use Rattle.std.proofs.lemmas.List.{length-map}
use Rattle.std.specs.List.{AllByRecursion}
use Rattle.cc_model.specs.Record.{Side, Record}
use Rattle.cc_model.specs.Items.{HasAnswer, Begins, SideBegins, calls_of, is_pass}
use Rattle.cc_model.specs.Legal.{Legal}
use Rattle.cc_queue.specs.Names.{Config, Entry, Answer, Pass, Phase, Move, Setting, Served}
use Rattle.cc_model.specs.After.{side_of}
use Rattle.cc_runs.specs.State.{pass_at, first_node}
use Rattle.cc_runs.specs.Run.{IsRun, reached, history_of, passes, nowhere, begins, number_of}
use Rattle.cc_runs.specs.CallsMade.{made, to_exchange}
use Rattle.cc_runs.specs.ChainLaws.{IsOut}
use Rattle.cc_runs.proofs.CallsMade.{calls_made}
use Rattle.cc_runs.proofs.EndAnswered.{calls_end}
use Rattle.cc_runs.proofs.RunPrefixes.{prefixes_begin}
use Rattle.cc_runs.proofs.ListRuns.Laws.{history_is_legal}
use Rattle.cc_steps.specs.Seen.{made_in}
use Rattle.cc_steps.specs.Walk.{Walk, IsSound}
use Rattle.cc_queue.specs.Headline.{name, history}
use Rattle.cc_queue.specs.Passes.{IsStill, HasStopped}
use Rattle.cc_queue.specs.Receipts.{HasEnded, told_of}
use Rattle.cc_queue.proofs.Headline.{stopped_stands, still_out, calls_in, answers_in}
use Rattle.cc_queue.proofs.OnItsSide.{Told, its, kept, on_its_side, side_begins}

-- ---- a prefix of a run in which the pass was out of its chain, and had begun the same calls

record Front (c : Setting) (moves : List Move) (p : ℕ) : Type 0 where
  pub later : List Move
  pub earlier : List Move
  pub is : moves ≡ later ++ earlier
  pub out : IsOut ((reached c earlier).stand p).phase
  pub same : made c moves p ≡ made c earlier p

-- one move more, by which the pass begins nothing
front_on : (c : Setting) (m : Move) (moves : List Move) (p : ℕ) → made c (m ∷ moves) p ≡ made c moves p → Front c moves p → Front c (m ∷ moves) p
front_on c m moves p same f = record { later = m ∷ f.later; earlier = f.earlier; is = ap (λ (l : List Move). m ∷ l) f.is; out = f.out; same = same ∙ f.same }

front : (c : Setting) (moves : List Move) (p : ℕ) → Front c moves p
front c [] p = record { later = []; earlier = []; is = refl; out = idle (nat_lt p (passes c)); same = refl }
  where
    idle : (b : Bool) → IsOut (if b then (record { begun = 0; node = first_node c.config p; phase = Phase.Idle }) else nowhere).phase
    idle true = tt
    idle false = tt
front c (Move.Begin q call known ∷ moves) p = go (q == p) refl (front c moves p)
  where
    go : (b : Bool) → (q == p) ≡ b → Front c moves p → Front c (Move.Begin q call known ∷ moves) p
    go true e f = record {
      later = [];
      earlier = Move.Begin q call known ∷ moves;
      is = refl;
      out = subst (λ (b : Bool). IsOut (if b then begins c.config q call known ((reached c moves).stand q) else (reached c moves).stand p).phase) (sym e) tt;
      same = refl;
    }
    go false e f = front_on c (Move.Begin q call known) moves p (ap (λ (b : Bool). if b then made c moves p ++ record { pass = pass_at c.config q; call = call; number = number_of call ((reached c moves).stand q).begun; known = known } ∷ [] else made c moves p) e) f
front c (Move.Step q ∷ moves) p = front_on c (Move.Step q) moves p refl (front c moves p)
front c (Move.Take q ∷ moves) p = front_on c (Move.Take q) moves p refl (front c moves p)

-- ---- answers stay as a history goes on

stays : (b : Bool) (z z' : Told) (xs ys : List Told) → (HasAnswer z → HasAnswer z') → (AllByRecursion HasAnswer xs → AllByRecursion HasAnswer (take (length xs) ys)) → AllByRecursion HasAnswer (kept b z xs) → AllByRecursion HasAnswer (take (length (kept b z xs)) (kept b z' ys))
stays true z z' xs ys f g all = (f all.0, g all.1)
stays false z z' xs ys f g all = g all

its_more : (p : Pass) (calls : List Entry) (answers : List Answer) (more : List Entry) (further : List Answer) → AllByRecursion HasAnswer (its p calls answers) → AllByRecursion HasAnswer (take (length (its p calls answers)) (its p (calls ++ more) (answers ++ further)))
its_more p [] answers more further all = tt
its_more p (e ∷ calls) [] more [] all = stays (is_pass p e.pass) (e, None) (e, None) (its p calls []) (its p (calls ++ more) []) (λ h. h) (its_more p calls [] more []) all
its_more p (e ∷ calls) [] more (a ∷ further) all = stays (is_pass p e.pass) (e, None) (e, Some a) (its p calls []) (its p (calls ++ more) further) (λ h. tt) (its_more p calls [] more further) all
its_more p (e ∷ calls) (a ∷ answers) more further all = stays (is_pass p e.pass) (e, Some a) (e, Some a) (its p calls answers) (its p (calls ++ more) (answers ++ further)) (λ h. h) (its_more p calls answers more further) all

-- all calls that a pass has in a history are answered in each that goes on from it
stay_answered : (cfg : Config) (p : Pass) (h later : Record) → Legal cfg h → Legal cfg later → Begins h later → AllByRecursion HasAnswer (calls_of p h) → AllByRecursion HasAnswer (take (length (calls_of p h)) (calls_of p later))
stay_answered cfg p h later l l' b all =
    let s : Side = side_of cfg p h in
    let begins : SideBegins s (side_of cfg p later) = side_begins cfg p h later b in
    let first : calls_of p h ≡ its p s.calls s.answers = on_its_side cfg h p l in
    let second : calls_of p later ≡ its p (s.calls ++ begins.calls.0) (s.answers ++ begins.answers.0) =
    on_its_side cfg later p l' ∙ (λ i. its p (begins.calls.1 i) (begins.answers.1 i)) in
    subst (λ (y : List Told × List Told). AllByRecursion HasAnswer (take (length y.0) y.1)) (λ i. (sym first i, sym second i))
    (its_more p s.calls s.answers begins.calls.0 begins.answers.0 (subst (AllByRecursion HasAnswer) first all))

-- ---- all but the last

all_fewer : (k n : ℕ) (xs : List Told) → k ≤ n → AllByRecursion HasAnswer (take n xs) → AllByRecursion HasAnswer (take k xs)
all_fewer zero n xs le all = tt
all_fewer (suc k) zero xs le all = absurd (omega (arith, le))
all_fewer (suc k) (suc n) [] le all = tt
all_fewer (suc k) (suc n) (x ∷ xs) le all = (all.0, all_fewer k n xs (omega (arith, le)) all.1)

empty_short : (l : List Entry) → l ≡ [] → length l ≤ 1
empty_short l is = subst (λ (m : List Entry). length m ≤ 1) (sym is) (omega arith)

one_short : (e : Entry) → length (e ∷ []) ≤ 1
one_short e = omega arith

exchange_short : (at : Phase) → length (to_exchange at) ≤ 1
exchange_short (Phase.ResetNext call) = one_short call
exchange_short (Phase.ResetState call) = one_short call
exchange_short (Phase.Exchange call) = one_short call
exchange_short at = empty_short (to_exchange at) refl

but_last : (w : Walk) → IsSound w → w.setting.served ≡ Served.List → to_exchange w.stand.phase ≡ [] → AllByRecursion HasAnswer (take (length (calls_of (name w) (history w)) - 1) (calls_of (name w) (history w)))
unfolding made_in
but_last w s list none =
    let c : Setting = w.setting in
    let f : Front c w.seen w.number = front c w.seen w.number in
    let begin = prefixes_begin c f.later f.earlier (subst (IsRun c) f.is s.run) in
    let h : Record = history_of c f.earlier in
    let here : Begins h (history w) = subst (λ (l : List Move). Begins h (history_of c l)) (sym f.is) begin.1 in
    let all : AllByRecursion HasAnswer (calls_of (name w) h) = calls_end c s.checked f.earlier begin.0 w.number s.below f.out in
    let were : made c f.earlier w.number ≡ map (λ z. z.0) (calls_of (name w) h) ++ to_exchange ((reached c f.earlier).stand w.number).phase = calls_made c s.checked f.earlier begin.0 w.number s.below in
    let are : map (λ z. z.0) (calls_of (name w) (history w)) ≡ made c w.seen w.number = calls_in w s none ∙ s.shows.1 in
    let both : map (λ z. z.0) (calls_of (name w) (history w)) ≡ map (λ z. z.0) (calls_of (name w) h) ++ to_exchange ((reached c f.earlier).stand w.number).phase = are ∙ f.same ∙ were in
    let long : length (calls_of (name w) (history w)) ≡ length (map (λ z. z.0) (calls_of (name w) (history w))) = sym (length-map (calls_of (name w) (history w)) (λ z. z.0)) in
    let was : length (map (λ z. z.0) (calls_of (name w) h)) ≡ length (calls_of (name w) h) = length-map (calls_of (name w) h) (λ z. z.0) in
    let sum = ap length both ∙ length-append (map (λ z. z.0) (calls_of (name w) h)) (to_exchange ((reached c f.earlier).stand w.number).phase) in
    let short = exchange_short ((reached c f.earlier).stand w.number).phase in
    all_fewer (length (calls_of (name w) (history w)) - 1) (length (calls_of (name w) h)) (calls_of (name w) (history w)) (omega (arith, long, was, sum, short))
    (stay_answered c.config (name w) h (history w) (history_is_legal c f.earlier list s.checked begin.0) (history_is_legal c w.seen list s.checked s.run) here all)

told_answered : (at : Phase) (calls : List Told) → IsStill at → (IsOut at → AllByRecursion HasAnswer calls) → AllByRecursion HasAnswer (take (length calls - 1) calls) → AllByRecursion HasAnswer (told_of at calls)
told_answered Phase.Idle calls is whole rest = whole tt
told_answered Phase.ReadState calls is whole rest = rest
told_answered at calls is whole rest = absurd is

-- a pass that was given up, which a caller knows as u
pub ended_so : (u v : Walk) → v ≡ u → HasStopped v → IsSound v → HasEnded u
ended_so u v is stop s = subst HasEnded is (record {
  stands = stopped_stands v v refl stop s;
  answered = told_answered v.stand.phase (calls_of (name v) (history v)) stop.still (λ out. answers_in v s out) (but_last v s stop.list (still_out v.stand.phase stop.still));
})
