use Rattle.std.proofs.Common.{rules, ◌≡◌, ◌∙◌, ap, sym, subst, IsTrue}
use Rattle.cc_runs.specs.Words.{layout_of, exists}
use Rattle.cc_steps.specs.Names.{Config, Setting, Word}
use Rattle.cc_steps.specs.Slots.{slot}
use Rattle.cc_steps.specs.Walk.{Walk}
use Rattle.cc_steps.proofs.Counted.{watches_so, watched_then}
use Rattle.cc_steps.proofs.counts.watch.Goals as goal

pub load-requires : goal.load-requires
load-requires c = rw c.deref.ensures (search rules, search rules, watches_so _ _ _ _ _ c.seat.invariant.pass)

pub returns : goal.returns
returns c =
    let setting : c.seat.inside.seat.me.0.setting ≡ c.args.words.now.setting = ap (λ (w : Walk). w.setting) c.seat.view_is ∙ c.requires.here.1 in
    let config : c.config.result.now ≡ c.seat.inside.seat.me.0.setting.config = c.config.ensures.config ∙ ap (λ (s : Setting). s.config) (sym setting) in
    record {
      watched = watched_then c.seat.inside.seat.table_id _ _ _ c.seat.invariant _ c.load.ensures.2 c.args.object (subst (λ (s : Setting). IsTrue (exists (layout_of s.config) (Word.Object c.args.object))) (sym setting) c.requires.there)
          (sym (c.slot_of-slot.ensures.place ∙ ap (λ (k : Config). slot (layout_of k) (Word.Object c.args.object)) config)) _ c.load.ensures.0 _ c.seat.view_is;
    }
