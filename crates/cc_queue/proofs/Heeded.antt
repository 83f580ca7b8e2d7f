-- Calls of a pass that has heeded a note: each comes after all that was noted.
use Rattle.std.proofs.Common.{◌≡◌, ℕ, suc, ◌+◌, ◌≤◌, Bool, true, false, List, [], ◌∷◌, ◌++◌, map, length, Option, Some, None, if◌then◌else◌, refl, sym, ap, ◌∙◌, subst, arith, append-nil, length-append}
use Rattle.std.proofs.lemmas.List.{length-map}
use Rattle.cc_model.specs.Record.{Record}
use Rattle.cc_model.specs.Items.{Begins, SideBegins, calls_of, is_pass, known_at}
use Rattle.cc_model.specs.Legal.{Legal}
use Rattle.cc_model.specs.Fresh as fresh
use Rattle.cc_model.specs.Fresh.{IsAnswered}
use Rattle.cc_model.specs.After.{side_of, ComesAfter}
use Rattle.cc_model.proofs.After.{later_tells}
use Rattle.cc_queue.specs.Names.{Config, Call, Pass, Entry, Answer, SendAnswer, TakeAnswer, Move, Setting}
use Rattle.cc_runs.specs.State.{pass_at}
use Rattle.cc_runs.specs.Run.{IsRun, history_of}
use Rattle.cc_runs.proofs.RunPrefixes.{prefixes_begin}
use Rattle.cc_runs.proofs.KnownPrefixes.{prefixes_know}
use Rattle.cc_runs.proofs.ListRuns.Laws.{history_is_legal}
use Rattle.cc_steps.specs.Noted.{Noted}
use Rattle.cc_steps.specs.Seen.{GoesOn, Onward, known_in}
use Rattle.cc_steps.specs.Walk.{Walk, HasLooked, IsSound}
use Rattle.cc_steps.proofs.Runs.{later_on}
use Rattle.cc_queue.specs.Calls.{Completed, Repeated, last_of}
use Rattle.cc_queue.specs.Headline.{StandsInOne, entry_of, name, history}
use Rattle.cc_queue.specs.Met.{HasMet}
use Rattle.cc_queue.specs.Passes.{HasStopped}
use Rattle.cc_queue.proofs.Meetings.{met_stopped}
use Rattle.cc_queue.specs.Noted.{IsOfOneQueue, IsListChecked, HasHeeded, CompletedAfter, HeededStays, HeededIsFresh, TakesAreFresh, SendsAreFresh, TurnsComplete, noted_history}
use Rattle.cc_queue.proofs.AnswerKinds.{last_is, map_last}
use Rattle.cc_queue.proofs.Headline.{begins_on, goes_self, completed_so, ended_so}
use Rattle.cc_queue.proofs.OnItsSide.{Told, its, kept, on_its_side, side_begins}

abbrev told : Entry → Option Answer → Told
told e a = (e, a)

abbrev none : Option Answer
none = None

-- ---- the last answered call of a pass comes after the calls of which it had made fewer

-- this call has this answer on a side, after at least this number of others
pub record FoundAt (calls : List Entry) (answers : List Answer) (e : Entry) (a : Answer) (past : ℕ) : Type 0 where
  pub before : List Answer
  pub answered : IsAnswered (record { calls = calls; answers = answers }) before e a
  pub low : past ≤ length before

found_later : (c : Entry) (b : Answer) (calls : List Entry) (answers : List Answer) (e : Entry) (a : Answer) (past : ℕ) → FoundAt calls answers e a past → FoundAt (c ∷ calls) (b ∷ answers) e a (suc past)
found_later c b calls answers e a past f = record {
  before = b ∷ f.before;
  answered = record { call_is = f.answered.call_is; behind = f.answered.behind; answers_are = ap (λ (l : List Answer). b ∷ l) f.answered.answers_are };
  low = omega (arith, f.low);
}

found_low : {calls : List Entry} {answers : List Answer} {e : Entry} {a : Answer} {past : ℕ} → FoundAt calls answers e a past → FoundAt calls answers e a 0
found_low f = record { before = f.before; answered = f.answered; low = omega arith }

-- how many of these calls are the pass's
abbrev pub own : Pass → List Entry → ℕ
own p [] = 0
own p (c ∷ calls) = (if is_pass p c.pass then 1 else 0) + own p calls

kept_length : (b : Bool) (z : Told) (l : List Told) → length (kept b z l) ≡ (if b then 1 else 0) + length l
kept_length true z l = omega arith
kept_length false z l = omega arith

pub its_length : (p : Pass) (calls : List Entry) (answers : List Answer) → length (its p calls answers) ≡ own p calls
its_length p [] answers = refl
its_length p (c ∷ calls) [] = omega (arith, kept_length (is_pass p c.pass) (c, None) (its p calls []), its_length p calls [])
its_length p (c ∷ calls) (a ∷ answers) = omega (arith, kept_length (is_pass p c.pass) (c, Some a) (its p calls answers), its_length p calls answers)

-- none is found if no call has an answer
none_kept : (c e : Entry) (a : Answer) (rest : List Told) (b : Bool) (zs : List Told) → ((ys : List Told) → rest ≡ ys ++ (e, Some a) ∷ [] → ⊥) → kept b (c, None) rest ≡ zs ++ (e, Some a) ∷ [] → ⊥
none_kept c e a rest false zs rec is = rec zs is
none_kept c e a rest true [] rec is = let first : told c None ≡ told e (Some a) = cc in let second : none ≡ Some a = ap (λ (z : Told). z.1) first in cc
none_kept c e a rest true (z ∷ zs) rec is = let more : rest ≡ zs ++ (e, Some a) ∷ [] = cc in rec zs more

none_answered : (p : Pass) (calls : List Entry) (zs : List Told) (e : Entry) (a : Answer) → its p calls [] ≡ zs ++ (e, Some a) ∷ [] → ⊥
none_answered p [] [] e a is = cc
none_answered p [] (z ∷ zs) e a is = cc
none_answered p (c ∷ calls) zs e a is = none_kept c e a (its p calls []) (is_pass p c.pass) zs (λ ys more. none_answered p calls ys e a more) is

-- the last of all calls of the pass
last_kept : (c e : Entry) (b a : Answer) (calls : List Entry) (answers : List Answer) (rest : List Told) (k : Bool) (zs : List Told) → ((ys : List Told) → rest ≡ ys ++ (e, Some a) ∷ [] → FoundAt calls answers e a 0) → kept k (c, Some b) rest ≡ zs ++ (e, Some a) ∷ []
    → FoundAt (c ∷ calls) (b ∷ answers) e a 0
last_kept c e b a calls answers rest false zs rec is = found_low (found_later c b calls answers e a 0 (rec zs is))
last_kept c e b a calls answers rest true [] rec is =
    let first : told c (Some b) ≡ told e (Some a) = cc in
    let one : c ≡ e = ap (λ (z : Told). z.0) first in
    let some : Some b ≡ Some a = ap (λ (z : Told). z.1) first in
    let two : b ≡ a = cc in
    record { before = []; answered = record { call_is = ap Some one; behind = answers; answers_are = ap (λ (x : Answer). x ∷ answers) two }; low = omega arith }
last_kept c e b a calls answers rest true (z ∷ zs) rec is = let more : rest ≡ zs ++ (e, Some a) ∷ [] = cc in found_low (found_later c b calls answers e a 0 (rec zs more))

pub found_last : (p : Pass) (calls : List Entry) (answers : List Answer) (zs : List Told) (e : Entry) (a : Answer) → its p calls answers ≡ zs ++ (e, Some a) ∷ [] → FoundAt calls answers e a 0
found_last p [] answers zs e a is = absurd (none_answered p [] zs e a is)
found_last p (c ∷ calls) [] zs e a is = absurd (none_answered p (c ∷ calls) zs e a is)
found_last p (c ∷ calls) (b ∷ answers) zs e a is = last_kept c e b a calls answers (its p calls answers) (is_pass p c.pass) zs (λ ys more. found_last p calls answers ys e a more) is

-- and if all but the last of them are among the first calls, it comes after those
behind_kept : (c e : Entry) (b a : Answer) (calls : List Entry) (answers : List Answer) (rest : List Told) (past mine : ℕ) (k : Bool) (zs : List Told) → ((ys : List Told) → rest ≡ ys ++ (e, Some a) ∷ [] → mine ≡ length ys → FoundAt calls answers e a past)
    → kept k (c, Some b) rest ≡ zs ++ (e, Some a) ∷ [] → (if k then 1 else 0) + mine ≡ length zs → FoundAt (c ∷ calls) (b ∷ answers) e a (suc past)
behind_kept c e b a calls answers rest past mine false zs rec is count = found_later c b calls answers e a past (rec zs is (omega (arith, count)))
behind_kept c e b a calls answers rest past mine true [] rec is count = absurd (omega (arith, count))
behind_kept c e b a calls answers rest past mine true (z ∷ zs) rec is count = let more : rest ≡ zs ++ (e, Some a) ∷ [] = cc in found_later c b calls answers e a past (rec zs more (omega (arith, count)))

found_behind : (p : Pass) (first more : List Entry) (answers : List Answer) (zs : List Told) (e : Entry) (a : Answer) → its p (first ++ more) answers ≡ zs ++ (e, Some a) ∷ [] → own p first ≡ length zs → FoundAt (first ++ more) answers e a (length first)
found_behind p [] more answers zs e a is count = found_last p more answers zs e a is
found_behind p (c ∷ first) more [] zs e a is count = absurd (none_answered p (c ∷ (first ++ more)) zs e a is)
found_behind p (c ∷ first) more (b ∷ answers) zs e a is count =
    behind_kept c e b a (first ++ more) answers (its p (first ++ more) answers) (length first) (own p first) (is_pass p c.pass) zs (λ ys rest n. found_behind p first more answers ys e a rest n) is count

-- ---- what was noted, what the pass had seen when it began its call, and what it has seen now

abbrev Comes : Config → Record → Record → Entry → Answer → Type 0
Comes cfg h later e told = (before : List Answer) × ComesAfter cfg h later before e told

comes_after : (c : Setting) (p : ℕ) (noted mid log : List Move) (zs : List Told) (e : Entry) (told : Answer) → IsListChecked c → GoesOn noted mid → GoesOn mid log → IsRun c log → e.pass ≡ pass_at c.config p → e.known ≡ known_in c p mid
    → calls_of (pass_at c.config p) (history_of c log) ≡ zs ++ (e, Some told) ∷ [] → length (calls_of (pass_at c.config p) (history_of c mid)) ≡ length zs → Comes c.config (history_of c noted) (history_of c log) e told
comes_after c p noted mid log zs e told q f g run pass_is known_is last count =
    let cfg : Config = c.config in
    let who : Pass = pass_at cfg p in
    let h : Record = history_of c noted in
    let m : Record = history_of c mid in
    let l : Record = history_of c log in
    let to_log = prefixes_begin c g.more mid (subst (IsRun c) g.is run) in
    let to_mid = prefixes_begin c f.more noted (subst (IsRun c) f.is to_log.0) in
    let mid_begins : Begins m l = subst (λ (x : List Move). Begins m (history_of c x)) (sym g.is) to_log.1 in
    let noted_begins : Begins h m = subst (λ (x : List Move). Begins h (history_of c x)) (sym f.is) to_mid.1 in
    let more : SideBegins (side_of cfg who m) (side_of cfg who l) = side_begins cfg who m l mid_begins in
    let less : SideBegins (side_of cfg who h) (side_of cfg who m) = side_begins cfg who h m noted_begins in
    let made : own who (side_of cfg who m).calls ≡ length zs = sym (its_length who (side_of cfg who m).calls (side_of cfg who m).answers) ∙ ap (λ (z : List Told). length z) (sym (on_its_side cfg m who (history_is_legal c mid q.list q.checked to_log.0))) ∙ count in
    let all : its who ((side_of cfg who m).calls ++ more.calls.0) (side_of cfg who l).answers ≡ zs ++ (e, Some told) ∷ [] = ap (λ (x : List Entry). its who x (side_of cfg who l).answers) (sym more.calls.1) ∙ sym (on_its_side cfg l who (history_is_legal c log q.list q.checked run)) ∙ last in
    let found = found_behind who (side_of cfg who m).calls more.calls.0 (side_of cfg who l).answers zs e told all made in
    let answered : IsAnswered (side_of cfg who l) found.before e told = subst (λ (x : List Entry). IsAnswered (record { calls = x; answers = (side_of cfg who l).answers }) found.before e told) (sym more.calls.1) found.answered in
    let behind : length (side_of cfg who h).calls ≤ length found.before = omega (arith, found.low, ap (λ (x : List Entry). length x) less.calls.1, length-append (side_of cfg who h).calls less.calls.0) in
    let knew : known_at who h ≤ known_in c p mid = subst (λ (x : List Move). known_at who h ≤ known_at who (history_of c x)) (sym f.is) (prefixes_know c q.checked f.more noted (subst (IsRun c) f.is to_log.0) p) in (
      found.before,
      record {
        answered = subst (λ (x : Pass). IsAnswered (side_of cfg x l) found.before e told) (sym pass_is) answered;
        seen = subst (λ (x : Pass × ℕ). known_at x.0 h ≤ x.1) (λ i. (sym pass_is i, sym known_is i)) knew;
        behind = subst (λ (x : Pass). length (side_of cfg x h).calls ≤ length found.before) (sym pass_is) behind;
      },
    )

-- ---- passes

-- the facts that are in one history stay in it as they are
pub stands_still : (v w : Walk) (calls : List Entry) → StandsInOne v calls w → StandsInOne w [] w
stands_still v w calls s = record {
  same = (refl, refl, refl);
  run = s.run;
  onward = λ first k. k;
  begins = begins_on w.setting w.seen w.seen (λ first k. k) s.run;
  legal = s.legal;
  fifo = s.fifo;
  linearizable = s.linearizable;
  made = sym (append-nil w.made);
  calls_are = s.calls_are;
}

noted_begins_on : (n : Noted) (w : Walk) → n.setting ≡ w.setting → Onward n.seen w.seen → IsRun w.setting w.seen → Begins (noted_history n) (history w)
noted_begins_on n w of on run = subst (λ (c : Setting). Begins (history_of c n.seen) (history w)) (sym of) (begins_on w.setting n.seen w.seen on run)

-- a pass that has taken in what was noted, and did nothing
pub heeded_so : (n : Noted) (u v w : Walk) → v ≡ u → HasStopped v → IsOfOneQueue u n → HasLooked v n.seen w → IsSound w → HasMet u w × HasHeeded n w
heeded_so n u v w is stop here looked sound =
    let met : HasMet u w = met_stopped u v w is stop (record { same = looked.same ∙ (λ i. record v { seen = (sym looked.same i).seen }); onward = looked.later; sound = sound }) in
    let setting : n.setting ≡ w.setting = here.1 ∙ sym (ap (λ (x : Walk). x.setting) met.same) in
    let on : Onward n.seen w.seen = λ first k. later_on first n.seen w.seen (record { more = looked.theirs.0; is = looked.theirs.1 }) k in (
      met,
      record {
        here = (here.0 ∙ sym (ap (λ (x : Walk). x.table_id) met.same), setting);
        onward = on;
        begins = noted_begins_on n w setting on met.stands.run;
        stands = stands_still u w [] met.stands;
        queue = record { list = ap (λ (x : Walk). x.setting.served) looked.same ∙ stop.list; checked = sound.checked };
      },
    )

-- the same by a copy of the note
pub heeded_stays : HeededStays
heeded_stays n v w calls h s =
    let setting : n.setting ≡ w.setting = h.here.1 ∙ sym s.same.1 in
    let on : Onward n.seen w.seen = λ first k. s.onward first (h.onward first k) in
    record {
      here = (h.here.0 ∙ sym s.same.0, setting);
      onward = on;
      begins = noted_begins_on n w setting on s.run;
      stands = stands_still v w calls s;
      queue = subst IsListChecked (sym s.same.1) h.queue;
    }

-- of two legal histories the noted one begins the one that the pass has seen
pub noted_goes_on : (n : Noted) (w : Walk) → HasHeeded n w → fresh.GoesOn w.setting.config (noted_history n) (history w)
noted_goes_on n w h =
    let g = h.onward n.seen (goes_self n.seen) in
    let front = prefixes_begin w.setting g.more n.seen (subst (IsRun w.setting) g.is h.stands.run) in
    record {
      legal = subst (λ (s : Setting). Legal w.setting.config (history_of s n.seen)) (sym h.here.1) (history_is_legal w.setting n.seen h.queue.list h.queue.checked front.0);
      later_legal = h.stands.legal;
      begins = h.begins;
    }

pub heeded_fresh : HeededIsFresh
heeded_fresh n v w call told h k =
    let e : Entry = entry_of v call in
    let zs : List Told = k.last.before in
    let same : w.setting ≡ v.setting = k.stands.same.1 in
    let fst : Told → Entry = λ (x : Told). x.0 in
    let calls : map fst zs ++ k.last.entry ∷ [] ≡ v.made ++ e ∷ [] = sym (map_last fst zs (k.last.entry, Some told)) ∙ sym (ap (map (λ (x : Told). x.0)) k.last.last) ∙ k.stands.calls_are ∙ k.stands.made in
    let its_entry : k.last.entry ≡ e = last_is (map fst zs) v.made k.last.entry e calls in
    let last : calls_of (name w) (history w) ≡ zs ++ (e, Some told) ∷ [] = k.last.last ∙ ap (λ (x : Entry). zs ++ (x, Some told) ∷ []) its_entry in
    let lengths : length zs + 1 ≡ length v.made + 1 = omega (arith, ap (λ (l : List Entry). length l) calls, length-append (map fst zs) (k.last.entry ∷ []), length-append v.made (e ∷ []), length-map zs fst) in
    let count : length (calls_of (name v) (history v)) ≡ length zs = omega (arith, lengths, ap (λ (l : List Entry). length l) h.stands.calls_are, length-map (calls_of (name v) (history v)) fst) in
    let c : Comes v.setting.config (history_of v.setting n.seen) (history_of v.setting w.seen) e told = comes_after v.setting v.number n.seen v.seen w.seen zs e told h.queue (h.onward n.seen (goes_self n.seen)) (k.stands.onward v.seen (goes_self v.seen)) (subst (λ (x : Setting). IsRun x w.seen) same k.stands.run) refl refl
    (subst (λ (x : Setting × ℕ). calls_of (pass_at x.0.config x.1) (history_of x.0 w.seen) ≡ zs ++ (e, Some told) ∷ []) (λ i. (same i, k.stands.same.2 i)) last) count in
    let after : Comes w.setting.config (noted_history n) (history w) e told = subst (λ (x : Setting × Setting). Comes x.0.config (history_of x.1 n.seen) (history_of x.0 w.seen) e told) (λ i. (sym same i, sym h.here.1 i)) c in
    let still = heeded_stays n v w (e ∷ []) h k.stands in
    record {
      before = after.0;
      after = after.1;
      tells = later_tells w.setting.config (noted_history n) (history w) (noted_goes_on n w still) after.0 e told after.1;
    }

pub turns_complete : TurnsComplete
turns_complete v b c w call told served begun waited answered = completed_so v b w call told begun (ended_so b c w told served waited answered)

-- the call that follows a note that was heeded
pub completed_after : (n : Noted) (u v w : Walk) (call : Call) (told : Answer) → HasMet u v → HasHeeded n v → Completed v call told w → CompletedAfter n u call told w
completed_after n u v w call told met heeded done = record { heeding = v; met = met; heeded = heeded; completed = done; fresh = heeded_fresh n v w call told heeded done }

-- ---- calls that are made again

heeded_again : (n : Noted) (call : Call) (told : Answer) (v : Walk) (ws : List Walk) → HasHeeded n v → Repeated call told v ws → HasHeeded n (last_of v ws)
heeded_again n call told v [] h each = h
heeded_again n call told v (w ∷ ws) h each = heeded_again n call told w ws (heeded_stays n v w (entry_of v call ∷ []) h each.0.stands) each.1

pub takes_fresh : TakesAreFresh
takes_fresh n v w told h t = heeded_fresh n (last_of v t.tried) w Call.Take (Answer.Take told) (heeded_again n Call.Take (Answer.Take TakeAnswer.Empty) v t.tried h t.none) t.taken

pub sends_fresh : SendsAreFresh
sends_fresh n v w body told h s = heeded_fresh n (last_of v s.tried) w (Call.Send body) (Answer.Send told) (heeded_again n (Call.Send body) (Answer.Send SendAnswer.Full) v s.tried h s.full) s.sent
