-- The clauses refuse these claims.
use Rattle.std.proofs.Common.{◌≡◌, ◌+◌, List, [], ◌∷◌, ◌++◌, length, refl, sym, ap, ◌∙◌, arith, length-append}
use Rattle.cc_queue.specs.Names.{Answer, Call, Item, Job, Kind, Move, Phase, TakeAnswer}
use Rattle.cc_steps.specs.Noted.{Noted}
use Rattle.cc_steps.specs.Seen.{GoesOn}
use Rattle.cc_steps.specs.Walk.{Walk}
use Rattle.cc_queue.specs.Calls.{Completed}
use Rattle.cc_queue.specs.Headline.{entry_of}
use Rattle.cc_queue.specs.Met.{HaveMet, HaveSeenOne}
use Rattle.cc_queue.specs.Noted.{HasHeeded}
use Rattle.cc_queue.specs.Refused.{RefusedClaims, SeesMore, NotesMore, has_read}

-- no list is one element longer than itself, before or behind
not_itself : {A : Type 0} (x : A) (xs : List A) → x ∷ xs ≡ xs → ⊥
not_itself x [] is = absurd (cc is)
not_itself x (y ∷ ys) is = let rest : y ∷ ys ≡ ys = cc is in not_itself y ys rest

not_longer : {A : Type 0} (xs : List A) (x : A) → xs ≡ xs ++ x ∷ [] → ⊥
not_longer [] x is = absurd (cc is)
not_longer (y ∷ ys) x is = let rest : ys ≡ ys ++ x ∷ [] = cc is in not_longer ys x rest

-- nor is it with any more elements before that
not_further : {A : Type 0} (more : List A) (x : A) (xs : List A) → xs ≡ more ++ x ∷ xs → ⊥
not_further more x xs is =
    let long : length xs ≡ length (more ++ x ∷ xs) = ap length is in
    let parts : length (more ++ x ∷ xs) ≡ length more + length (x ∷ xs) = length-append more (x ∷ xs) in
    omega (arith, long, parts)

word_past : (job : Job) (item : Item) → Phase.MarkDone job ≡ Phase.WriteAnswerBody job item 1 → ⊥
word_past job item is = absurd (cc is)

reads_first : (v : Walk) → has_read v ≡ v → ⊥
reads_first v is = not_itself Kind.ReadState v.did (ap (λ (w : Walk). w.did) is)

one_left_out : (v w : Walk) → SeesMore v w → HaveSeenOne [] (v ∷ w ∷ []) [] → ⊥
one_left_out v w more one = not_itself more.0 v.seen (sym more.1 ∙ one.receivers_have 1 v (omega arith) ∙ sym (one.receivers_have 0 v (omega arith)))

one_way : (old old' new new' : Walk) → SeesMore new new' → HaveMet old old' new new' → ⊥
one_way old old' new new' more met = not_itself more.0 new.seen (sym more.1 ∙ met.seen)

left_out : (n : Noted) (w : Walk) → NotesMore n w → HasHeeded n w → ⊥
left_out n w more heeded =
    let goes : GoesOn n.seen w.seen = heeded.onward n.seen record { more = []; is = refl } in
    not_further goes.more more.0 w.seen (goes.is ∙ ap (λ (xs : List Move). goes.more ++ xs) more.1)

no_take : (v : Walk) → Completed v Call.Take (Answer.Take TakeAnswer.Empty) v → ⊥
no_take v done = not_longer v.made (entry_of v Call.Take) done.stands.made

pub claims_refused : RefusedClaims
claims_refused = record {
  a_word_past_the_body = word_past;
  abandon_reads_first = reads_first;
  last_one_left_out = one_left_out;
  meets_one_way = one_way;
  note_left_out = left_out;
  take_left_out = no_take;
}
