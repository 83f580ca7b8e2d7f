-- The number of sends that a pass has begun is kept at its place.
use Rattle.std.proofs.Common.{◌≡◌, ℕ, ◌+◌, Bool, true, false, ◌==◌, cond, nat_lt, List, [], ◌∷◌, ◌++◌, refl, sym, ap, ◌∙◌, arith}
use Rattle.std.proofs.lemmas.Bool.{eqb-true}
use Rattle.cc_queue.specs.Names.{Call, Entry, Setting, Move, Stand, Phase}
use Rattle.cc_runs.specs.State.{State, chain_of, pass_at, first_node, word_of}
use Rattle.cc_runs.specs.Lines.{operation}
use Rattle.cc_runs.specs.Step.{advanced}
use Rattle.cc_runs.specs.CallsMade.{made}
use Rattle.cc_runs.specs.Run.{begins, rests, begun_after, number_of, nowhere, passes, reached}
use Rattle.cc_steps.specs.Seen.{stand_in, made_in}
use Rattle.cc_steps.specs.Walk.{Walk, IsSound}
use Rattle.cc_queue.specs.SendCount.{is_send, sends_in}

sends_more : (calls : List Entry) (e : Entry) → sends_in (calls ++ e ∷ []) ≡ sends_in calls + is_send e.call
sends_more [] e = omega arith
sends_more (d ∷ calls) e = omega (arith, sends_more calls e)

-- one more if a send is begun
after_begin : (what : Call) (begun : ℕ) → begun_after what begun ≡ begun + is_send what
after_begin (Call.Send body) begun = refl
after_begin Call.Close begun = omega arith
after_begin Call.Take begun = omega arith

abbrev begun_at : Stand → ℕ
begun_at at = at.begun

-- a pass that moves, or another
other : (b : Bool) (new mine old : Stand) → (b ≡ true → mine ≡ old) → new.begun ≡ mine.begun → (cond b new old).begun ≡ old.begun
other true new mine old same is = is ∙ ap begun_at (same refl)
other false new mine old same is = refl

-- and one that begins a call
begin_counts : (b : Bool) (new mine old : Stand) (calls : List Entry) (e : Entry) → (b ≡ true → mine ≡ old) → new.begun ≡ mine.begun + is_send e.call → old.begun ≡ sends_in calls
    → (cond b new old).begun ≡ sends_in (cond b (calls ++ e ∷ []) calls)
begin_counts true new mine old calls e same more is = let at : mine.begun ≡ old.begun = ap begun_at (same refl) in omega (arith, more, at, is, sends_more calls e)
begin_counts false new mine old calls e same more is = is

none_yet : (b : Bool) (at : Stand) → at.begun ≡ 0 → (cond b at nowhere).begun ≡ 0
none_yet true at is = is
none_yet false at is = refl

counted : (c : Setting) (moves : List Move) (p : ℕ) → ((reached c moves).stand p).begun ≡ sends_in (made c moves p)
counted c [] p = none_yet (nat_lt p (passes c)) record { begun = 0; node = first_node c.config p; phase = Phase.Idle } refl
counted c (Move.Begin q what known ∷ earlier) p =
    let s : State = reached c earlier in
    let e : Entry = record { pass = pass_at c.config q; call = what; number = number_of what (s.stand q).begun; known = known } in
    begin_counts (q == p) (begins c.config q what known (s.stand q)) (s.stand q) (s.stand p) (made c earlier p) e (λ t. ap s.stand (eqb-true q p t)) (after_begin what (s.stand q).begun) (counted c earlier p)
counted c (Move.Step q ∷ earlier) p =
    let s : State = reached c earlier in
    other (q == p) (advanced c (chain_of c.config q) (s.stand q) (s.mem (word_of (operation c (chain_of c.config q) (s.stand q).node (s.stand q).phase)))) (s.stand q) (s.stand p) (λ t. ap s.stand (eqb-true q p t)) refl
    ∙ counted c earlier p
counted c (Move.Take q ∷ earlier) p =
    let s : State = reached c earlier in
    other (q == p) (rests (s.stand q)) (s.stand q) (s.stand p) (λ t. ap s.stand (eqb-true q p t)) refl ∙ counted c earlier p

-- of a pass that has stepped so far
pub sends_made : (w : Walk) → IsSound w → w.stand.begun ≡ sends_in w.made
unfolding stand_in made_in
sends_made w sound = ap begun_at sound.shows.0 ∙ counted w.setting w.seen w.number ∙ ap sends_in (sym sound.shows.1)
