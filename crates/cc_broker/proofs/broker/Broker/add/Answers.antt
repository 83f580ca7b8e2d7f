use Rattle.std.proofs.Common.{[], ◌∷◌, ◌++◌, map, slice_get, Some, string_bytes, sym, ap, ◌∙◌}
use Rattle.std.proofs.lemmas.List.{map-append}
use Rattle.std.specs.String.{string_eq}
use Rattle.indexmap.proofs.CallerLemmas.{insert_entry-new}
use Rattle.cc_broker.specs.Topics.{names}
use Rattle.cc_broker.proofs.Lookup.{seen, absent}
use Rattle.cc_broker.proofs.broker.Broker.add.Goals as goal

pub returns : goal.returns
returns c =
    let before = c.self.inside.topics in
    let key = c.in_ok-name.name in
    let new = absent string_bytes key before.entries (λ i e. c.requires.new i (ap (λ topics. slice_get (names topics) i) (sym c.self.view_is) ∙ e ∙ ap Some c.in_ok-name.ensures.ok)) in
    ap (map (seen string_bytes)) (c.in_ok-insert.ensures.entries ∙ insert_entry-new string_eq before key c.args.queue new)
    ∙ map-append (seen string_bytes) before.entries ((key, c.args.queue) ∷ [])
    ∙ (λ i. c.self.view_is i ++ (c.in_ok-name.ensures.ok i, c.args.queue) ∷ [])
