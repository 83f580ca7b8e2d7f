use Rattle.std.proofs.Common.{◌≡◌, ◌∙◌, ◌++◌, [], ◌∷◌, Ok, arith, rules, refl, sym, subst, ap, string_bytes, option_map, min, ◌+◌, ◌-◌, ◌^◌}
use Rattle.std.specs.HashMap.{get_by_text}
use Rattle.std.proofs.lemmas.Map.Text.{hash_map_updates_text}
use Rattle.cc_log.specs.Log.{after_last, differs, or_refusal, tie_with}
use Rattle.cc_log.specs.State.{entry_in, last_in, sender_in}
use Rattle.cc_log.specs.Answers.{Refuses}
use Rattle.cc_log.proofs.Steps.{allowed_given, fault_passed, refused_first, refused_item}
use Rattle.cc_log.proofs.state.add.Goals as goal

pub returns-in_err-check_last : goal.returns-in_err-check_last
returns-in_err-check_last c =
    let e = entry_in c.args.number c.args.parsed in
    let thread = string_bytes c.args.parsed.thread in
    let same : c.copied-last.result ≡ last_in c.args.state.now thread = c.copied-last.ensures ∙ c.get.ensures.value ∙ ap (λ bytes. get_by_text c.args.state.now.log.threads bytes) c.as_str.ensures.value in
    let fault = c.in_err-check_last.field-0.0 in
    fault_passed c.args.state.now _ e c.from_residual-in_err-check_last.result fault c.from_residual-in_err-check_last.ensures.1
    (refused_first fault (or_refusal e.number (after_last e.line.begin (last_in c.args.state.now thread))) (λ free. differs e.number e.line.said (sender_in c.args.state.now.items))
    (subst (λ last. Refuses fault (or_refusal e.number (after_last e.line.begin last))) same c.in_err-check_last.ensures))

pub returns-in_err-act : goal.returns-in_err-act
returns-in_err-act c =
    let e = entry_in c.args.number c.args.parsed in
    let same : c.copied-last.result ≡ last_in c.args.state.now (string_bytes c.args.parsed.thread) = c.copied-last.ensures ∙ c.get.ensures.value ∙ ap (λ bytes. get_by_text c.args.state.now.log.threads bytes) c.as_str.ensures.value in
    let free : or_refusal c.args.number (after_last c.args.parsed.line.begin (last_in c.args.state.now (string_bytes c.args.parsed.thread))) ≡ Ok tt = ap (λ last. or_refusal c.args.number (after_last c.args.parsed.line.begin last)) (sym same) ∙ c.in_ok-check_last.ensures in
    fault_passed c.args.state.now _ e c.from_residual-in_err-act.result c.in_err-act.field-0.0 c.from_residual-in_err-act.ensures.1
    (refused_item c.in_err-act.field-0.0 e (last_in c.args.state.now (string_bytes c.args.parsed.thread)) (sender_in c.args.state.now.items) free c.in_err-act.ensures.refuses)

pub returns : goal.returns
returns c =
    let e = entry_in c.args.number c.args.parsed in
    let same : c.copied-last.result ≡ last_in c.args.state.now (string_bytes c.args.parsed.thread) = c.copied-last.ensures ∙ c.get.ensures.value ∙ ap (λ bytes. get_by_text c.args.state.now.log.threads bytes) c.as_str.ensures.value in
    let free : or_refusal c.args.number (after_last c.args.parsed.line.begin (last_in c.args.state.now (string_bytes c.args.parsed.thread))) ≡ Ok tt = ap (λ last. or_refusal c.args.number (after_last c.args.parsed.line.begin last)) (sym same) ∙ c.in_ok-check_last.ensures in
    record {
      low = omega arith;
      is_allowed = allowed_given e (last_in c.args.state.now (string_bytes c.args.parsed.thread)) (sender_in c.args.state.now.items) free c.in_ok-act.ensures.differs;
      options = refl;
      capacity = refl;
      late = refl;
      ends = refl;
      bodies = c.in_ok-act.ensures.bodies;
      senders = c.in_ok-act.ensures.senders;
      place = c.in_ok-place.place;
      place_is = search rules;
      lasts = hash_map_updates_text (string_bytes c.args.parsed.thread) c.args.state.now.log.threads c.insert_full.new.self _ c.in_ok-thread.ensures.updates;
      calls = c.in_ok-push.ensures.items ∙ ap (λ x. c.args.state.now.log.calls.items ++ x ∷ [])
          (c.call_of.ensures ∙ ap (λ a. record { begin = c.args.parsed.line.begin - c.args.state.now.log.options.skew; end = option_map (λ end. min (end + c.args.state.now.log.options.skew) (2 ^ 64 - 1)) c.args.parsed.line.end; act = a }) c.in_ok-act.ensures.act);
      lines = c.in_ok-note.ensures.lines;
      ties = c.in_ok-note_tie.ensures.ties ∙ ap (λ last. c.args.state.now.log.rules.ties.items ++ tie_with c.args.state.now.log.options.skew c.in_ok-place.place c.args.parsed.line.begin last) same;
      closes = refl;
    }
