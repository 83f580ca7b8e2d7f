use Rattle.std.proofs.Common.{◌≡◌, ◌<◌, ◌-◌, ◌++◌, ◌∷◌, ◌∙◌, List, ℕ, suc, [], refl, take, drop, length, ap, sym, subst, slice_range, arith}
use Rattle.std.proofs.lemmas.List.{length-take}
use Rattle.cc_log.specs.Lines.{HasNoNewline, IsNewline, held, lines_after}
use Rattle.cc_log.proofs.Ahead.{found, held_after, held_none, plain}
use Rattle.cc_log.proofs.lines.Lines.give_out.Goals as goal

pub returns-in_ok-extend_from_slice-in-Some-clause-lines : goal.returns-in_ok-extend_from_slice-in-Some-clause-lines
returns-in_ok-extend_from_slice-in-Some-clause-lines c = λ rest.
    let start = c.args.self.now.start in
    let end = c.args.self.now.end in
    let place = c.in-Some.place in
    let new = c.extend_from_slice.new.self.items in
    let newline = subst (λ (l : List ℕ). IsNewline (slice_range l start end) place) c.deref.ensures.value c.in-Some.ensures.some in
    let whole : new ≡ c.args.line.now.items ++ take place (held c.args.self.now) = c.in_ok-extend_from_slice-in-Some.ensures.items ∙ ap (λ l. c.args.line.now.items ++ take place (slice_range l start end)) c.deref.ensures.value in
    let within : place < length (held c.args.self.now) = newline.within in
    let len = length-take (end - start) (drop start c.args.self.now.chunk.items) in
    let below : place < end - start = omega (arith, within, len) in
    found (held c.args.self.now) place c.args.line.now.items rest newline.within newline.newline newline.first
    ∙ ap (λ l. l ∷ lines_after [] (drop (suc place) (held c.args.self.now) ++ rest)) (sym whole)
    ∙ ap (λ h. new ∷ lines_after [] (h ++ rest)) (sym (held_after c.args.self.now.chunk.items start end place c.requires.begins below))

pub returns-in_ok-extend_from_slice-in-None-clause-lines : goal.returns-in_ok-extend_from_slice-in-None-clause-lines
returns-in_ok-extend_from_slice-in-None-clause-lines c = λ rest.
    let start = c.args.self.now.start in
    let end = c.args.self.now.end in
    let none = subst (λ (l : List ℕ). HasNoNewline (slice_range l start end)) c.deref.ensures.value c.in-None.ensures.none in
    let whole : c.extend_from_slice-in-None.new.self.items ≡ c.args.line.now.items ++ held c.args.self.now = c.in_ok-extend_from_slice-in-None.ensures.items ∙ ap (λ l. c.args.line.now.items ++ slice_range l start end) c.deref.ensures.value in
    plain (held c.args.self.now) c.args.line.now.items rest none
    ∙ ap (λ l. lines_after l rest) (sym whole)
    ∙ ap (λ h. lines_after c.extend_from_slice-in-None.new.self.items (h ++ rest)) (sym (held_none c.args.self.now.chunk.items end end refl))
