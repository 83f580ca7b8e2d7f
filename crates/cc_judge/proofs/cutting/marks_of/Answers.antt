use Rattle.std.proofs.Common.{◌≡◌, ℕ, ◌+◌, ◌<◌, ◌≤◌, Bool, true, List, length, sym, ap, ◌∙◌, subst, arith}
use Rattle.std.specs.List.{slice_get, slice_set}
use Rattle.std.proofs.lemmas.Option.{slice_get-get_or}
use Rattle.std.proofs.lemmas.List.{length-set}
use Rattle.cc_judge.proofs.Parts.{MarkedTo, mark_in, mark_out, marks_all}
use Rattle.cc_judge.proofs.cutting.marks_of.Goals as goal
use Rattle.cc_judge.proofs.cutting.marks_of.Goals.{then-place-len, else-place-len}

pub loop-tie-preserved : goal.loop-tie-preserved
loop-tie-preserved c =
    let i = c.loop-tie.tie-index in
    let marks = c.loop-tie.marks.items in
    let later = c.args.later in
    let Goes : List Bool → Type 0 = λ m. (length m ≡ c.args.number) × MarkedTo c.args.ties.now later m (i + 1) in
    let at = slice_get-get_or c.args.ties.now i _ c.loop-tie-test.true in
    elim c.if-place-len.branch [
      | then-place-len w ↦
          let within : c.place_of-place.result < length marks = let test = w.if-place-len.true in let len = c.len.ensures in let is = c.loop-tie.marks.ok.0 in omega (arith, test, len, is) in
          subst Goes (ap (λ v. v.items) (sym w.marks-is)) (length-set marks c.place_of-place.result true ∙ c.loop-tie.invariant.0, subst (λ (p : ℕ). MarkedTo c.args.ties.now later (slice_set marks p true) (i + 1)) (sym c.place_of-place.ensures) (mark_in c.args.ties.now later marks i _ at _ (ap (slice_get marks) (sym c.place_of-place.ensures) ∙ slice_get-get_or marks c.place_of-place.result true within) c.loop-tie.invariant.1))
      | else-place-len w ↦
          let out : length marks ≤ c.place_of-place.result = let test = w.if-place-len.false in let len = c.len.ensures in let is = c.loop-tie.marks.ok.0 in omega (arith, test, len, is) in
          subst Goes (ap (λ v. v.items) (sym w.marks-is)) (c.loop-tie.invariant.0, mark_out c.args.ties.now later marks i _ at (subst (λ (p : ℕ). length marks ≤ p) c.place_of-place.ensures out) c.loop-tie.invariant.1)
    ]

pub returns-clause-marked : goal.returns-clause-marked
returns-clause-marked c = marks_all c.args.ties.now c.args.later c.loop-tie.marks.items c.loop-tie.tie-index c.loop-tie-test.false c.loop-tie.invariant.1
