-- The numbers of a task lie in their ranges.
use Rattle.std.proofs.Common.{◌≡◌, ◌∙◌, ◌<◌, ◌≤◌, ◌^◌, ℕ, Bool, true, false, List, [], Option, Some, None, Result, Ok, Err, option_map, refl, sym, ap, subst, true≢false, arith, codes, pos}
use Rattle.std.specs.Prelude.{find, if◌then◌else◌, nat_lt, unwrap_or, ⊤}
use Rattle.std.specs.List.{slice_index_or}
use Rattle.std.specs.Option.{option_map_or}
use Rattle.std.specs.Result.{result_unwrap_or}
use Rattle.std.specs.Str.{bytes_eq}
use Rattle.std.proofs.lemmas.Slice.Eq.{bytes_eq-Decides}
use Rattle.clap.specs.Facts.{unwrap_or_range}
use Rattle.clap.specs.Faults.{entered_fault, fault_of, level_fault, walk_fault}
use Rattle.clap.specs.Simple.{Shape, argument_words, built, entered, label_of, names_of, new_shape, rows_at, subcommand_of}
use Rattle.clap.specs.Walk.{Row, Rule, Text, answers_to, arg_by_id, has_row, is_empty, nothing_held, rows_after, walk, walk_from}
use Rattle.clap.specs.declared.builder.value_parser.ValueParser.{ValueParser}
use Rattle.cc_log.specs.declared.parse.Options.{Options}
use Rattle.cc_cli.specs.declared.task.Task.{Task}
use Rattle.cc_line.specs.declared.asked.Refusal.{Refusal}
use Rattle.cc_line.specs.Number.{number_of}
use Rattle.cc_line.proofs.Clap.Defaults.{defaults_make}
use Rattle.cc_line.specs.Line.{AreInRange, IsInRange, IsWithin, clash, drive_of, file_of, form_of, line_of, options_of, task_of, unless, with_file}
use Rattle.cc_line.specs.Program.{program}
use Rattle.cc_line.proofs.Clap.Numbers.{IsIn, small_if, small_in, large_in}
use Rattle.cc_line.proofs.Clap.Passed.{Each, Fits, IsOwn, find_each, level_good, or_nil, some_is}

-- ---- the task that the words enter

abbrev pub rules_at : ℕ → List Rule
rules_at k = (slice_index_or (built program).subs k (new_shape [])).rules

-- its rules are its own, and those of `judge` or of `drive` if it has that name
abbrev IsTask : Shape → Type 0
IsTask s = Each (IsOwn s.rules) s.rules × ((bytes_eq s.name (codes "judge") ≡ true → s.rules ≡ rules_at 2) × (bytes_eq s.name (codes "drive") ≡ true → s.rules ≡ rules_at 4))

other : {A : Type 0} → false ≡ true → A
other e = absurd (true≢false (sym e))

are_tasks : Each IsTask (built program).subs
are_tasks = (
  (((refl, refl), ((refl, refl), tt)), ((λ e. other e), (λ e. other e))),
  (
    (((refl, refl), ((refl, refl), tt)), ((λ e. other e), (λ e. other e))),
    (
      (((refl, refl), ((refl, refl), ((refl, refl), ((refl, refl), ((refl, refl), ((refl, refl), ((refl, refl), ((refl, refl), ((refl, refl), tt))))))))), ((λ e. refl), (λ e. other e))),
      (
        (((refl, refl), ((refl, refl), ((refl, refl), tt))), ((λ e. other e), (λ e. other e))),
        (
          (((refl, refl), ((refl, refl), ((refl, refl), ((refl, refl), ((refl, refl), ((refl, refl), tt)))))), ((λ e. other e), (λ e. refl))),
          ((((refl, refl), tt), ((λ e. other e), (λ e. other e))), tt),
        ),
      ),
    ),
  ),
)

-- its rows fit its rules, and an option with a default has one
abbrev HasRows : List Rule → List Row → Type 0
HasRows rules rows = Each (Fits rules) rows × ((id : Text) (a : Rule) → arg_by_id rules id ≡ Some a → is_empty a.defaults ≡ false → has_row id rows ≡ true)

module _ (name : Text) (rows : List Row) where
  abbrev Entered : Type 0
  Entered = (s : Shape) × IsTask s × (s.name ≡ name) × HasRows s.rules rows

  in_task : (o : Option Shape) (words : List Text) → ((s : Shape) → o ≡ Some s → IsTask s) → option_map_or (λ s. level_fault s [] nothing_held words false []) o [] ≡ [] → option_map (λ s. rows_at s words) o ≡ Some (name, rows) → Entered
  in_task None words each e f = absurd (cc f)
  in_task (Some s) words each e f =
      let task = each s refl in
      let same : (s.name, rows_after s.rules [] words) ≡ (name, rows) = some_is _ _ f in
      (s, task, ap (λ p. p.0) same, subst (HasRows s.rules) (ap (λ p. p.1) same) (level_good s task.0 words e, λ id a is some. defaults_make s.rules id a _ is some))

  at_stop : (stop : Option (Text × List Text)) → entered_fault (built program) stop ≡ [] → entered (built program) stop ≡ Some (name, rows) → Entered
  at_stop None e f = absurd (cc f)
  at_stop (Some p) e f = in_task (find (λ s. answers_to p.0 (label_of s)) (built program).subs) p.1 (λ s is. find_each IsTask (λ s. answers_to p.0 (label_of s)) (built program).subs are_tasks s is) e f

  pub in_words : (words : List Text) → fault_of program words ≡ [] → subcommand_of program words ≡ Some (name, rows) → Entered
  in_words words e f =
      let stop = (walk (built program).top.rules (names_of (built program)) nothing_held (argument_words program words)).stopped in
      let walked = or_nil (walk_fault (built program).top (names_of (built program)) (walk_from nothing_held) (argument_words program words)) _ e in
      let below = or_nil (entered_fault (built program) stop) _ walked.1 in
      at_stop stop below.0 f

-- ---- the numbers of a task

module _ (words : List Text) (rows : List Row) (faultless : fault_of program words ≡ []) where
  module _ (found : subcommand_of program words ≡ Some (codes "drive", rows)) where
    of_drive : HasRows (rules_at 4) rows
    of_drive = let task = in_words (codes "drive") rows words faultless found in subst (λ (rules : List Rule). HasRows rules rows) (task.1.1.1 (ap (λ (t : Text). bytes_eq t (codes "drive")) task.2 ∙ refl)) task.3

    small_of : (id : Text) (a : Rule) → arg_by_id (rules_at 4) id ≡ Some a → nat_lt 0 (unwrap_or_range a.range).start_inclusive ≡ true → is_empty a.defaults ≡ false
        → (low high : ℕ) → a.parser ≡ Some (ValueParser.Signed (pos low) (pos high)) → high < 2 ^ 32 → IsIn low high (number_of 32 id rows)
    small_of id a is wants some low high parser fits = small_in (rules_at 4) rows of_drive.0 id a is wants (of_drive.1 id a is some) 32 low high parser fits

    pub senders_in : IsIn 1 63 (number_of 32 (codes "senders") rows)
    senders_in = small_of (codes "senders") _ refl refl refl 1 63 refl (omega arith)

    pub receivers_in : IsIn 1 64 (number_of 32 (codes "receivers") rows)
    receivers_in = small_of (codes "receivers") _ refl refl refl 1 64 refl (omega arith)

    pub items_in : IsIn 0 1000000 (number_of 64 (codes "items") rows)
    items_in = large_in (rules_at 4) rows of_drive.0 (codes "items") _ refl refl (of_drive.1 (codes "items") _ refl refl) 0 1000000 refl

    pub capacity_in : IsIn 1 4096 (number_of 32 (codes "capacity") rows)
    capacity_in = small_of (codes "capacity") _ refl refl refl 1 4096 refl (omega arith)

    pub bound_in : IsIn 1 1024 (number_of 32 (codes "bound") rows)
    bound_in = small_of (codes "bound") _ refl refl refl 1 1024 refl (omega arith)

  module _ (found : subcommand_of program words ≡ Some (codes "judge", rows)) where
    of_judge : HasRows (rules_at 2) rows
    of_judge = let task = in_words (codes "judge") rows words faultless found in subst (λ (rules : List Rule). HasRows rules rows) (task.1.1.0 (ap (λ (t : Text). bytes_eq t (codes "judge")) task.2 ∙ refl)) task.3

    pub log_capacity_in : (n : ℕ) → number_of 32 (codes "capacity") rows ≡ Some n → (1 ≤ n) × (n ≤ 4294967295)
    log_capacity_in n is = small_if (rules_at 2) rows of_judge.0 (codes "capacity") _ refl 32 n 1 4294967295 is refl (omega arith)

-- ---- the ranges of a task

result_is : {T : Type 0} (t u : T) → ◌≡◌ {A = Result T Refusal} (Ok t) (Ok u) → t ≡ u
result_is t u e = ap (λ r. result_unwrap_or r t) e

module _ (name : Text) (rows : List Row) where
  -- a task with numbers has them from the rows of the subcommand of its name
  abbrev Named : Task → Type 0
  Named (Task.Judge options) = (bytes_eq name (codes "judge") ≡ true) × (options_of rows ≡ options)
  Named (Task.Drive config) = (bytes_eq name (codes "drive") ≡ true) × (drive_of rows ≡ config)
  Named task = ⊤

  step : (b : Bool) (one rest : Result Task Refusal) (t : Task) → (b ≡ true → one ≡ Ok t → Named t) → (rest ≡ Ok t → Named t) → (if b then one else rest) ≡ Ok t → Named t
  step true one rest t here later e = here refl e
  step false one rest t here later e = later e

  judged : (o : Option Refusal) (t : Task) → bytes_eq name (codes "judge") ≡ true → unless o (Task.Judge (options_of rows)) ≡ Ok t → Named t
  judged None t b e = subst Named (result_is (Task.Judge (options_of rows)) t e) (b, refl)
  judged (Some refusal) t b e = absurd (cc e)

  named : (t : Task) → task_of name rows ≡ Ok t → Named t
  named t e =
      step (bytes_eq name (codes "play")) _ _ t (λ b f. subst Named (result_is Task.Play t f) tt)
      (step (bytes_eq name (codes "audit")) _ _ t (λ b f. subst Named (result_is Task.Audit t f) tt)
      (step (bytes_eq name (codes "judge")) _ _ t (λ b f. judged (clash (options_of rows)) t b f)
      (step (bytes_eq name (codes "show")) _ _ t (λ b f. subst Named (result_is (Task.Show (form_of rows)) t f) tt)
      (step (bytes_eq name (codes "drive")) _ _ t (λ b f. subst Named (result_is (Task.Drive (drive_of rows)) t f) (b, refl))
      (λ f. absurd (cc f)))))) e

given : (low high : ℕ) (o : Option ℕ) → IsIn low high o → IsWithin low high (unwrap_or o 0)
given low high o found = let is : unwrap_or o 0 ≡ found.0 = ap (λ x. unwrap_or x 0) found.1 in let least = found.2 in let most = found.3 in (omega (arith, is, least), omega (arith, is, most))

module _ (words : List Text) (faultless : fault_of program words ≡ []) (rows : List Row) where
  of_task : (name : Text) → subcommand_of program words ≡ Some (name, rows) → (t : Task) → Named name rows t → IsInRange t
  of_task name found Task.Play h = tt
  of_task name found Task.Audit h = tt
  of_task name found (Task.Judge options) h = λ n is. (log_capacity_in words rows faultless (found ∙ ap (λ (t : Text). Some (t, rows)) ((bytes_eq-Decides name (codes "judge")).0 h.0)) n (ap (λ (o : Options). o.capacity) h.1 ∙ is)).0
  of_task name found (Task.Show form) h = tt
  of_task name found (Task.Drive config) h =
      let drive = found ∙ ap (λ (t : Text). Some (t, rows)) ((bytes_eq-Decides name (codes "drive")).0 h.0) in
      subst AreInRange h.1 (record {
        senders = given 1 63 _ (senders_in words rows faultless drive);
        receivers = given 1 64 _ (receivers_in words rows faultless drive);
        items = (given 0 1000000 _ (items_in words rows faultless drive)).1;
        capacity = given 1 4096 _ (capacity_in words rows faultless drive);
        bound = given 1 1024 _ (bound_in words rows faultless drive);
      })

task_is : (file : Option Text) (r : Result Task Refusal) (t : Task) (f : Option Text) → with_file file r ≡ Ok (t, f) → r ≡ Ok t
task_is file (Ok task) t f e = let same : task ≡ t = ap (λ p. p.0) (result_is (task, file) (t, f) e) in ap Ok same
task_is file (Err refusal) t f e = absurd (cc e)

pub in_range : (words : List Text) → fault_of program words ≡ [] → (found : Option (Text × List Row)) → subcommand_of program words ≡ found → (t : Task) (f : Option Text) → line_of found ≡ Ok (t, f) → IsInRange t
in_range words faultless None is t f e = absurd (cc e)
in_range words faultless (Some p) is t f e = of_task words faultless p.1 p.0 is t (named p.0 p.1 t (task_is (file_of p.1) (task_of p.0 p.1) t f e))
