use Rattle.std.proofs.Common.{slice_get, string_bytes, sym, ap, ◌∙◌}
use Rattle.std.specs.Map.{keys_of}
use Rattle.cc_broker.specs.Topics.{names}
use Rattle.cc_broker.proofs.Lookup.{names_seen, name_from_position, position_from_name}
use Rattle.cc_broker.proofs.broker.Broker.topic.Goals as goal

pub returns : goal.returns
returns c number =
    let found = c.get_index_of.ensures in
    let seen = ap (λ topics. slice_get (names topics) number) (sym c.self.view_is)
    ∙ ap (λ l. slice_get l number) (names_seen string_bytes c.self.inside.topics.entries) in (
      λ e. seen ∙ name_from_position string_bytes c.args.name.now (keys_of c.self.inside.topics.entries) number (sym found.index ∙ e),
      λ e. found.index ∙ position_from_name string_bytes c.args.name.now (keys_of c.self.inside.topics.entries) number found.unique (sym seen ∙ e),
    )
