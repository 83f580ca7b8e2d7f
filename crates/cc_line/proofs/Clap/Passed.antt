-- If nothing is wrong with the words of a command, each value that is found for an option passed the option's parser.
use Rattle.std.proofs.Common.{◌≡◌, ◌∙◌, ◌<◌, ◌&&◌, ◌||◌, ◌++◌, ◌==◌, ℕ, zero, suc, Bool, true, false, List, [], ◌∷◌, length, Option, Some, None, is_some, refl, sym, ap, subst, arith}
use Rattle.std.specs.Prelude.{⊤, drop, encode_utf8, find, fold, if◌then◌else◌, nat_lt, slice_get, unwrap_or}
use Rattle.std.specs.Option.{option_map_or}
use Rattle.std.specs.Str.{bytes_eq, chars}
use Rattle.std.proofs.lemmas.Bool.{ne_eqb}
use Rattle.std.proofs.lemmas.Slice.Eq.{bytes_eq-Decides}
use Rattle.clap.specs.Lexer.{long_of, short_of}
use Rattle.clap.specs.Facts.{parser_of_value, unwrap_or_range}
use Rattle.clap.specs.Kinds.{Kinds, or_else, range_kinds, request_kinds, value_kinds}
use Rattle.clap.specs.Simple.{Shape}
use Rattle.clap.specs.Faults.{action_fault, bundle_fault, bundle_step_fault, defaults_fault, flag_word_fault, flags_fault, level_fault, long_fault, option_fault, other_fault, positional_fault, react_fault, settle_fault, short_fault, step_fault, stray_fault, turn_fault, use_fault, values_fault, walk_fault, word_fault}
use Rattle.clap.specs.Walk.{Held, Names, Outcome, done, waits, plain, refused, Row, Rule, Step, next, trailing, subcommand, value, Text, Waiting, idle, option, positional, Walk, action_of, after_flag, after_step, arg_by_id, arg_by_index, arg_by_long, arg_by_short, at_row, attached_value, bundle, bundle_met, bundle_step, default_rows, flag_met, has_row, is_empty, is_pending, long_met, long_or_other, more_values, most_values, nothing_held, option_met, option_word, plain_word, pushed, reacted, reading_by, rows_after, settled, settled_rows, short_met, short_or_plain, subcommand_met, subcommand_or_other, takes_several, takes_values, to_positional, used, used_as, used_by_id, values_or_missing, walk, walk_from, walked, walked_from, with_default, with_values, without, word_met}
use Rattle.clap.specs.declared.builder.action.ArgAction.{ArgAction}
use Rattle.clap.specs.declared.error.kind.ErrorKind.{ErrorKind}
use Rattle.clap.specs.declared.parser.matches.ValueSource.{ValueSource}

-- ---- lists

abbrev pub Each : {X : Type 0} → (X → Type 0) → List X → Type 0
Each P [] = ⊤
Each P (x ∷ xs) = P x × Each P xs

each_append : {X : Type 0} (P : X → Type 0) (xs ys : List X) → Each P xs → Each P ys → Each P (xs ++ ys)
each_append P [] ys one two = two
each_append P (x ∷ xs) ys one two = (one.0, each_append P xs ys one.1 two)

pub some_is : {X : Type 0} (x y : X) → Some x ≡ Some y → x ≡ y
some_is x y is = ap (λ o. unwrap_or o x) is

pub find_each : {X : Type 0} (P : X → Type 0) (p : X → Bool) (xs : List X) → Each P xs → (x : X) → find p xs ≡ Some x → P x
find_each P p [] each x is = absurd (cc is)
find_each P p (y ∷ ys) each x is = by (p y) refl (λ later. find_each P p ys each.1 x later)
  where
    by : (b : Bool) → p y ≡ b → (find p ys ≡ Some x → P x) → P x
    by true e rest = subst P (some_is y x (rw e at is)) each.0
    by false e rest = rest (rw e at is)

pub or_nil : (xs ys : Kinds) → or_else xs ys ≡ [] → (xs ≡ []) × (ys ≡ [])
or_nil [] ys e = (refl, e)
or_nil (k ∷ ks) ys e = absurd (cc e)

values_append : (a : Rule) (xs ys : List Text) → values_fault a xs ≡ [] → values_fault a ys ≡ [] → values_fault a (xs ++ ys) ≡ []
values_append a [] ys e f = f
values_append a (x ∷ xs) ys e f = let parts = or_nil (value_kinds a.ignore_case (parser_of_value a.parser) x) _ e in rw parts.0 (values_append a xs ys parts.1 f)

-- ---- rows

abbrev counts : ArgAction → Bool
counts ArgAction.Count = true
counts _ = false

-- the rule is the one of its id, and counts nothing
abbrev pub IsOwn : List Rule → Rule → Type 0
IsOwn c a = (arg_by_id c a.id ≡ Some a) × (counts (action_of a) ≡ false)

-- there is a value if the rule wants one
abbrev pub AreSome : Rule → List Text → Type 0
AreSome a values = nat_lt 0 (unwrap_or_range a.range).start_inclusive ≡ true → 0 < length values

-- the values of the row passed the parser of its rule, are read as it says, and there is one if it wants one
abbrev pub Fits : List Rule → Row → Type 0
Fits c r = (a : Rule) × (arg_by_id c r.id ≡ Some a) × (values_fault a r.values ≡ []) × (r.reading ≡ reading_by a) × AreSome a r.values

more_some : (xs ys : List Text) → 0 < length xs → 0 < length (xs ++ ys)
more_some [] ys h = absurd (omega (arith, h))
more_some (x ∷ xs) ys h = omega arith

some_given : (a : Rule) (values : List Text) → range_kinds (unwrap_or_range a.range).start_inclusive (most_values a) (length values) ≡ [] → AreSome a (values_or_missing a values)
some_given a [] e wants = let bad : ErrorKind.InvalidValue ∷ [] ≡ [] = rw wants at e in absurd (cc bad)
some_given a (v ∷ vs) e wants = omega arith

module _ (s : Shape) (own : Each (IsOwn s.rules) s.rules) where
  abbrev c : List Rule
  c = s.rules

  abbrev again : Bool
  again = s.args_override_self

  abbrev Good : List Row → Type 0
  Good rows = Each (Fits c) rows

  mine_of : (p : Rule → Bool) (a : Rule) → find p c ≡ Some a → IsOwn c a
  mine_of p a is = find_each (IsOwn c) p c own a is

  at_row_good : (id : Text) (change : Row → List Row) (missing rows : List Row) → ((r : Row) → bytes_eq r.id id ≡ true → Fits c r → Good (change r)) → Good missing → Good rows → Good (at_row id change missing rows)
  at_row_good id change missing [] changed m g = m
  at_row_good id change missing (r ∷ rs) changed m g = by (bytes_eq r.id id) refl (at_row_good id change missing rs changed m g.1)
    where
      by : (b : Bool) → bytes_eq r.id id ≡ b → Good (at_row id change missing rs) → Good (at_row id change missing (r ∷ rs))
      by true e rest = rw e (each_append (Fits c) (change r) rs (changed r e g.0) g.1)
      by false e rest = rw e (g.0, rest)

  without_good : (id : Text) (rows : List Row) → Good rows → Good (without id rows)
  without_good id rows g = at_row_good id (λ r. []) [] rows (λ r same fits. tt) tt g

  values_good : (a : Rule) (source : ValueSource) (values : List Text) (rows : List Row) → IsOwn c a → values_fault a values ≡ [] → AreSome a values → Good rows → Good (with_values a.id (reading_by a) source values rows)
  values_good a source values rows mine passed full g = at_row_good a.id (more_values source values) _ rows more ((a, mine.0, passed, refl, full), tt) g
    where
      more : (r : Row) → bytes_eq r.id a.id ≡ true → Fits c r → Good (more_values source values r)
      more r same fits =
          let key : r.id ≡ a.id = (bytes_eq-Decides r.id a.id).0 same in
          let one : fits.0 ≡ a = some_is fits.0 a (sym fits.1 ∙ ap (arg_by_id c) key ∙ mine.0) in
          let more : values_fault fits.0 values ≡ [] = subst (λ (x : Rule). values_fault x values ≡ []) (sym one) passed in
          ((fits.0, fits.1, values_append fits.0 r.values values fits.2 more, fits.3, λ wants. more_some r.values values (fits.4 wants)), tt)

  acted_good : (x : ArgAction) (a : Rule) (values : List Text) (rows : List Row) → IsOwn c a → counts x ≡ false → AreSome a values → action_fault x again a values rows ≡ [] → Good rows → Good (used_as x a.id (reading_by a) values rows)
  acted_good ArgAction.Set a values rows mine none full e g = values_good a ValueSource.CommandLine values (without a.id rows) mine (or_nil _ _ e).1 full (without_good a.id rows g)
  acted_good ArgAction.SetTrue a values rows mine none full e g = values_good a ValueSource.CommandLine values (without a.id rows) mine (or_nil _ _ e).1 full (without_good a.id rows g)
  acted_good ArgAction.SetFalse a values rows mine none full e g = values_good a ValueSource.CommandLine values (without a.id rows) mine (or_nil _ _ e).1 full (without_good a.id rows g)
  acted_good ArgAction.Append a values rows mine none full e g = values_good a ValueSource.CommandLine values rows mine e full g
  acted_good ArgAction.Count a values rows mine none full e g = absurd (cc none)
  acted_good ArgAction.Help a values rows mine none full e g = g
  acted_good ArgAction.HelpShort a values rows mine none full e g = g
  acted_good ArgAction.HelpLong a values rows mine none full e g = g
  acted_good ArgAction.Version a values rows mine none full e g = g

  use_good : (a : Rule) (values : List Text) (rows : List Row) → IsOwn c a → use_fault again a values rows ≡ [] → Good rows → Good (used a values rows)
  use_good a values rows mine e g =
      let parts = or_nil (range_kinds (unwrap_or_range a.range).start_inclusive (most_values a) (length values)) _ e in
      acted_good (action_of a) a (values_or_missing a values) rows mine mine.1 (some_given a values parts.0) parts.1 g

  -- ---- the pending option

  pending_good : (p : Option (Text × List Text)) (rows : List Row) → option_map_or (λ q. option_map_or (λ a. use_fault again a q.1 rows) (arg_by_id c q.0) []) p [] ≡ [] → Good rows → Good (settled_rows c p rows)
  pending_good None rows e g = g
  pending_good (Some q) rows e g = by (arg_by_id c q.0) refl e
    where
      by : (o : Option Rule) → arg_by_id c q.0 ≡ o → option_map_or (λ a. use_fault again a q.1 rows) o [] ≡ [] → Good (used_by_id o q.1 rows)
      by None is f = g
      by (Some a) is f = use_good a q.1 rows (mine_of _ a is) f g

  settle_good : (h : Held) → settle_fault c again h ≡ [] → Good h.rows → Good (settled c h).rows
  settle_good h e g = pending_good h.pending h.rows e g

  react_good : (a : Rule) (values : List Text) (h : Held) → IsOwn c a → react_fault c again a values h ≡ [] → Good h.rows → Good (reacted c a values h).rows
  react_good a values h mine e g = let parts = or_nil (settle_fault c again h) _ e in use_good a values (settled c h).rows mine parts.1 (settle_good h parts.0 g)

  -- ---- flags

  option_good : (a : Rule) (v : Option Text) (h : Held) → IsOwn c a → option_fault c again a v h ≡ [] → Good h.rows → Good (option_met c a v h).0.rows
  option_good a (Some v) h mine e g = react_good a (v ∷ []) h mine e g
  option_good a None h mine e g = settle_good h e g

  flag_good : (a : Rule) (v : Option Text) (h : Held) → IsOwn c a → (if is_some v then ErrorKind.TooManyValues ∷ [] else react_fault c again a [] h) ≡ [] → Good h.rows → Good (flag_met c a v h).0.rows
  flag_good a (Some v) h mine e g = g
  flag_good a None h mine e g = react_good a [] h mine e g

  long_good : (found : Option Rule) (v : Option Text) (h : Held) → ((a : Rule) → found ≡ Some a → IsOwn c a) → long_fault c again found v h ≡ [] → Good h.rows → Good (long_met c found v h).0.rows
  long_good None v h mine e g = g
  long_good (Some a) v h mine e g = by (takes_values a) e
    where
      by : (b : Bool) → (if b then option_fault c again a v h else (if is_some v then ErrorKind.TooManyValues ∷ [] else react_fault c again a [] h)) ≡ [] → Good (if b then option_met c a v h else flag_met c a v h).0.rows
      by true f = option_good a v h (mine a refl) f g
      by false f = flag_good a v h (mine a refl) f g

  short_good : (found : Option Rule) (rest : Text) (h : Held) (fault : Held → Kinds) (go : Held → Held × Outcome) → ((a : Rule) → found ≡ Some a → IsOwn c a) → ((k : Held) → fault k ≡ [] → Good k.rows → Good (go k).0.rows)
      → short_fault c again found rest h fault ≡ [] → Good h.rows → Good (short_met c found rest h go).0.rows
  short_good None rest h fault go mine more e g = g
  short_good (Some a) rest h fault go mine more e g = by (takes_values a) e
    where
      by : (b : Bool) → (if b then option_fault c again a (attached_value rest) h else or_else (react_fault c again a [] h) (fault (reacted c a [] h))) ≡ []
          → Good (if b then option_met c a (attached_value rest) h else go (reacted c a [] h)).0.rows
      by true f = option_good a (attached_value rest) h (mine a refl) f g
      by false f = let parts = or_nil (react_fault c again a [] h) _ f in more (reacted c a [] h) parts.1 (react_good a [] h (mine a refl) parts.0 g)

  step_good : (first : Option ℕ) (flags : Text) (skip : ℕ) (so_far : Outcome) (h : Held) (fault : Text → ℕ → Held → Kinds) (go : Text → ℕ → Outcome → Held → Held × Outcome)
      → ((t : Text) (n : ℕ) (o : Outcome) (k : Held) → fault t n k ≡ [] → Good k.rows → Good (go t n o k).0.rows) → bundle_step_fault c again first flags skip h fault ≡ [] → Good h.rows → Good (bundle_step c first flags skip so_far h go).0.rows
  step_good None flags skip so_far h fault go more e g = g
  step_good (Some x) flags zero so_far h fault go more e g =
      let rest = drop (length (encode_utf8 x)) flags in
      short_good (arg_by_short c x) rest h (fault rest 0) (go rest 0 done) (λ a is. mine_of _ a is) (λ k f j. more rest 0 done k f j) e g
  step_good (Some x) flags (suc skip) so_far h fault go more e g = more (drop (length (encode_utf8 x)) flags) skip so_far h e g

  bundle_good : (k : ℕ) (flags : Text) (skip : ℕ) (so_far : Outcome) (h : Held) → flags_fault c again k flags skip h ≡ [] → Good h.rows → Good (bundle_met c k flags skip so_far h).0.rows
  unfolding flags_fault bundle_met
  bundle_good zero flags skip so_far h e g = g
  bundle_good (suc k) flags skip so_far h e g = step_good (slice_get (chars flags) 0) flags skip so_far h (flags_fault c again k) (bundle_met c k) (λ t n o j f i. bundle_good k t n o j f i) e g

  -- ---- words

  plain_good : (waiting : Waiting) (word : Text) (h : Held) → Good h.rows → Good (plain_word c waiting word h).0.rows
  plain_good idle word h g = g
  plain_good (option id) word h g = by (arg_by_id c id)
    where
      by : (o : Option Rule) → Good (option_word o id word h).0.rows
      by None = g
      by (Some a) = g
  plain_good positional word h g = g

  after_good : (waiting : Waiting) (word : Text) (h : Held) (o : Outcome) → Good h.rows → Good (after_flag c waiting word h o).0.rows
  after_good waiting word h done g = g
  after_good waiting word h (waits id) g = g
  after_good waiting word h plain g = plain_good waiting word h g
  after_good waiting word h refused g = plain_good waiting word h g

  shorts_good : (o : Option Text) (waiting : Waiting) (word : Text) (h : Held) → option_map_or (λ flags. bundle_fault c again flags h) o [] ≡ [] → Good h.rows → Good (short_or_plain c waiting word o h).0.rows
  shorts_good (Some flags) waiting word h e g = after_good waiting word (bundle c flags h).0 (bundle c flags h).1 (bundle_good (length flags) flags h.skip plain (record h { skip = 0 }) e g)
  shorts_good None waiting word h e g = plain_good waiting word h g

  flags_good : (o : Option (Text × Option Text)) (waiting : Waiting) (word : Text) (h : Held) → flag_word_fault c again o word h ≡ [] → Good h.rows → Good (long_or_other c waiting word o h).0.rows
  flags_good (Some p) waiting word h e g =
      after_good waiting word (long_met c (arg_by_long c p.0) p.1 h).0 (long_met c (arg_by_long c p.0) p.1 h).1 (long_good (arg_by_long c p.0) p.1 h (λ a is. mine_of _ a is) e g)
  flags_good None waiting word h e g = shorts_good (short_of word) waiting word h e g

  other_good : (o : Option Text) (waiting : Waiting) (position : ℕ) (word : Text) (h : Held) → other_fault s o word h ≡ [] → Good h.rows → Good (subcommand_or_other c o waiting position word h).0.rows
  other_good (Some name) waiting position word h e g = g
  other_good None waiting position word h e g = by (bytes_eq word (45 ∷ 45 ∷ [])) e
    where
      by : (b : Bool) → (if b then [] else flag_word_fault c again (long_of word) word h) ≡ [] → Good (if b then (h, trailing position) else long_or_other c waiting word (long_of word) h).0.rows
      by true f = g
      by false f = flags_good (long_of word) waiting word h f g

  met_good : (names : Names) (is_trailing : Bool) (waiting : Waiting) (position : ℕ) (word : Text) (h : Held) → word_fault s names is_trailing waiting word h ≡ [] → Good h.rows → Good (word_met c names is_trailing waiting position word h).0.rows
  met_good names true waiting position word h e g = g
  met_good names false waiting position word h e g = other_good (subcommand_met names waiting word) waiting position word h e g

  placed_good : (b : Bool) (a : Rule) (word : Text) (h : Held) → (if b then [] else settle_fault c again h) ≡ [] → Good h.rows → Good (pushed a.id word (if b then h else settled c h)).rows
  placed_good true a word h e g = g
  placed_good false a word h e g = settle_good h e g

  place_good : (o : Option Rule) (word : Text) (w : Walk) (h : Held) → option_map_or (λ a. positional_fault c again a h) o (stray_fault s) ≡ [] → Good h.rows → Good (to_positional c o word w h).held.rows
  place_good None word w h e g = g
  place_good (Some a) word w h e g = placed_good (is_pending a h.pending && takes_several a) a word h e g

  after_step_good : (word : Text) (w : Walk) (h : Held) (step : Step) → step_fault s w.position h step ≡ [] → Good h.rows → Good (after_step c word w h step).held.rows
  after_step_good word w h (next waiting) e g = g
  after_step_good word w h (trailing position) e g = g
  after_step_good word w h (subcommand name) e g = g
  after_step_good word w h value e g = place_good (arg_by_index c w.position) word w h e g

  turn_good : (names : Names) (stop : Option (Text × List Text)) (w : Walk) (word : Text)
      → (if is_some stop then [] else or_else (word_fault s names w.is_trailing w.waiting word w.held) (step_fault s w.position (word_met c names w.is_trailing w.waiting w.position word w.held).0 (word_met c names w.is_trailing w.waiting w.position word w.held).1)) ≡ []
      → Good w.held.rows → Good (walked_from c names stop w word).held.rows
  turn_good names (Some p) w word e g = g
  turn_good names None w word e g =
      let met = word_met c names w.is_trailing w.waiting w.position word w.held in
      let parts = or_nil (word_fault s names w.is_trailing w.waiting word w.held) _ e in
      after_step_good word w met.0 met.1 parts.1 (met_good names w.is_trailing w.waiting w.position word w.held parts.0 g)

  walk_good : (names : Names) (words : List Text) (w : Walk) → walk_fault s names w words ≡ [] → Good w.held.rows → Good (fold (walked c names) w words).held.rows
  unfolding walk_fault walked
  walk_good names [] w e g = g
  walk_good names (word ∷ rest) w e g = let parts = or_nil (turn_fault s names w word) _ e in walk_good names rest (walked c names w word) parts.1 (turn_good names w.stopped w word parts.0 g)

  -- ---- defaults

  default_good : (a : Rule) (rows : List Row) → IsOwn c a → (b : Bool) (defaults : List Text) → (if b || is_empty defaults then [] else or_else (request_kinds (action_of a)) (values_fault a defaults)) ≡ [] → Good rows
      → Good (if b then rows else default_rows a.id (reading_by a) defaults rows)
  default_good a rows mine true defaults e g = g
  default_good a rows mine false [] e g = g
  default_good a rows mine false (v ∷ vs) e g =
      let some : (length (v ∷ vs) == 0) ≡ false = ne_eqb _ _ (λ none. omega (arith, none)) in
      values_good a ValueSource.DefaultValue (v ∷ vs) rows mine (or_nil (request_kinds (action_of a)) _ (rw some at e)).1 (λ wants. omega arith) g

  defaults_good : (rest : List Rule) → Each (IsOwn c) rest → (rows : List Row) → defaults_fault rows rest ≡ [] → Good rows → Good (fold with_default rows rest)
  unfolding defaults_fault
  defaults_good [] each rows e g = g
  defaults_good (a ∷ rest) each rows e g =
      let parts = or_nil _ _ e in
      defaults_good rest each.1 (with_default rows a) parts.1 (default_good a rows each.0 (has_row a.id rows) a.defaults parts.0 g)

  pub level_good : (words : List Text) → level_fault s [] nothing_held words false [] ≡ [] → Good (rows_after c [] words)
  level_good words e =
      let end = (walk c [] nothing_held words).held in
      let walked = or_nil (walk_fault s [] (walk_from nothing_held) words) _ e in
      let settled = or_nil (settle_fault c again end) _ walked.1 in
      let defaults = or_nil _ _ settled.1 in
      defaults_good c own _ defaults.0 (settle_good end settled.0 (walk_good [] words (walk_from nothing_held) walked.0 tt))
