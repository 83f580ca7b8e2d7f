-- A load by a seat that does no step: it changes no word and adds no move, and the seat has seen the longest run afterwards.
use Rattle.std.proofs.Common.{◌≡◌, ℕ, List, [], get_or, IsTrue, None, refl, sym, ap, ◌∙◌, subst}
use Rattle.atomic_table.specs.Seated.{TableId}
use Rattle.atomic_table.specs.Table.{State, Me, keeps, Allows}
use Rattle.cc_steps.specs.Names.{Move, Object, Setting, Word, View, Role}
use Rattle.cc_runs.specs.Words.{layout_of, exists}
use Rattle.cc_steps.specs.Slots.{slot}
use Rattle.cc_steps.specs.Seen.{stand_in, word_in, made_in, did_in}
use Rattle.cc_steps.specs.Shown.{passing, Shown, stand_of}
use Rattle.cc_steps.specs.Counted.{FoundAt, Watched, HasWatched}
use Rattle.cc_steps.specs.Walk.{Walk, walk_of, Sound}
use Rattle.cc_steps.proofs.Keeps.{word_found}
use Rattle.cc_steps.proofs.Joined.{viewed_as, after_load}
use Rattle.cc_steps.proofs.Runs.{later_on, made-others, did-others, stand-others, step_safe}

module _ (c : Setting) (s : State (Unit {0}) View) (h : Shown c s) (place : ℕ) where
  -- the word in the slot is that of the longest run
  pub found_at : FoundAt c h.log place (get_or s.words place 0)
  unfolding word_in
  found_at = record {
    run = h.run;
    found_is = λ w there is. ap (λ (x : ℕ). get_or s.words x 0) (sym is) ∙ sym (word_found (layout_of c.config) s.words w there) ∙ ap (λ (m : Word → ℕ). m w) h.words;
  }

-- a pass sees the longest run
pub watches_so : (c : Setting) (slots id : ℕ) (me : Me (Unit {0}) View) (place : ℕ) → me.0.role ≡ Role.Pass → Allows (Shown c) slots id me place (λ x. x) (λ x m'. Watched me.0 place x m'.0)
watches_so c slots id me place is s h _ at _ =
    let v : View = me.0 in
    let known = viewed_as c s h id v Role.Pass is at in (
      passing c v.number h.log,
      keeps,
      tt,
      after_load c s h id place v h.log known ([], refl, refl),
      record {
        view = λ i. passing (sym known.0 i) v.number h.log;
        mine = known.3;
        found_at = subst (λ (x : Setting). FoundAt x h.log place (get_or s.words place 0)) (sym known.0) (found_at c s h place);
      },
    )

-- ---- what that gives a pass

module _ (z : TableId) (v : View) (place found : ℕ) (sound : Sound v) (u : View) (l : Watched v place found u) where
  abbrev Next : View
  Next = passing v.setting v.number u.seen

  next_sound : Sound Next
  next_sound = record { pass = refl; alone = refl; below = sound.below; checked = sound.checked; run = l.found_at.run }

  pub sound_seen : Sound u
  sound_seen = subst Sound (sym l.view) next_sound

  module _ (object : Object) (there : IsTrue (exists (layout_of v.setting.config) (Word.Object object))) (is : slot (layout_of v.setting.config) (Word.Object object) ≡ place) where
    next_watched : HasWatched (walk_of z v) object found (walk_of z Next)
    next_watched = record {
      same = λ i. record {
        table_id = z;
        setting = v.setting;
        number = v.number;
        seen = u.seen;
        stand = (ap (λ (x : List Move). stand_in v.setting x v.number) l.mine.1 ∙ stand-others v.setting l.mine.0 v.seen v.number l.mine.2) i;
        made = (ap (λ (x : List Move). made_in v.setting x v.number) l.mine.1 ∙ made-others v.setting l.mine.0 v.seen v.number l.mine.2) i;
        did = (ap (λ (x : List Move). did_in v.setting x v.number) l.mine.1 ∙ did-others v.setting l.mine.0 v.seen v.number l.mine.2) i;
      };
      later = λ first g. later_on first v.seen u.seen (record { more = l.mine.0; is = l.mine.1 }) g;
      mine = l.mine;
      run = l.found_at.run;
      ready = (step_safe v.setting sound.checked v.number u.seen u.seen None (stand_of Next) sound.below l.found_at.run refl);
      found_is = l.found_at.found_is (Word.Object object) there is;
    }

    pub watched_then : (y : TableId) → y ≡ z → (w : Walk) → walk_of z v ≡ w → HasWatched w object found (walk_of y u)
    watched_then y same w is_w = subst (λ (x : Walk × Walk). HasWatched x.0 object found x.1) (λ i. (is_w i, walk_of (sym same i) (sym l.view i))) next_watched
