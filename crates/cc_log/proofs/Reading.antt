-- Reading a log line by line.
use Rattle.std.proofs.Common.{◌≡◌, ◌+◌, ◌++◌, ◌<◌, ◌||◌, is_some, ℕ, Bool, true, false, List, [], ◌∷◌, length, nat_eq, if◌then◌else◌, Option, Result, Ok, Err, refl, sym, ap, subst, ◌∙◌}
use Rattle.std.specs.Result.{IsErrAnd}
use Rattle.std.specs.HashMap.{keys}
use Rattle.std.proofs.lemmas.Bool.{lt-ltb}
use Rattle.cc_log.specs.Names.{Call, Ending, LineFault, LogFault, Options, State, Tie, Window}
use Rattle.cc_log.specs.Answers.{Gives, GivesOfInput, IsLongLine, Refuses, RefusesInput}
use Rattle.cc_log.specs.Lines.{GivesLine, HasInput, HasLines, IsAhead, IsSound, IsTooLong, held, is_blank, line_limit, lines_of}
use Rattle.cc_log.specs.declared.lines.Lines.{Lines}
use Rattle.cc_judge.specs.Late.{padded}
use Rattle.cc_log.specs.Log.{Known, Refusal, Spelled, no_calls, ◌>>=◌, at_first, bad_line, bodies_of, calls_of, if_some, is_early, is_part, judged_ties, log_of, numbers_of, spelled, ties_of, tree_of, with_line, with_lines, with_tree}
use Rattle.cc_log.specs.State.{Shows}
use Rattle.cc_log.proofs.Ahead.{some_ahead, some_input}
use Rattle.std.specs.Result.{OnOk}
use Rattle.cc_log.specs.Written.{IsWellFormed}
use Rattle.cc_log.proofs.Written.{log_well_formed}
use Rattle.cc_log.proofs.Steps.{calls_length, refused_first}

-- the source had an input from which the lines up to here were read
pub record Leads (options : Options) (left : Option (List ℕ)) (known : Known) (number : ℕ) (after : List ℕ) : Type 0 where
  pub input : List ℕ
  pub has : HasInput left input
  pub same : with_lines (at_first options.window) 1 (lines_of input) ≡ with_lines known number (lines_of after)

-- nothing was read yet
pub leads_at_first : (options : Options) (l : Lines) (left : Option (List ℕ)) → held l ≡ [] → (after : List ℕ) → IsAhead l left after → Leads options left (at_first options.window) 1 after
leads_at_first options l left none after ahead = record {
  input = after;
  has = subst (HasInput left) (sym (ahead.text_is ∙ ap (λ h. h ++ ahead.rest) none)) ahead.in_source;
  same = refl;
}

-- after one more line
pub leads_on : (options : Options) (left_first left_old left_new : Option (List ℕ)) (old new : Lines) (known next : Known) (number : ℕ) (line : List ℕ) → GivesLine old new left_old left_new line → with_line known number line ≡ Ok next
    → ((after : List ℕ) → IsAhead old left_old after → Leads options left_first known number after) → (after : List ℕ) → IsAhead new left_new after → Leads options left_first next (number + 1) after
leads_on options left_first left_old left_new old new known next number line gives is leads after ahead =
    let h = gives after ahead in
    let before = leads h.text h.ahead in
    record {
      input = before.input;
      has = before.has;
      same = before.same ∙ ap (λ lines. with_lines known number lines) h.lines_are ∙ ap (λ r. r >>= (λ k. with_lines k (number + 1) (lines_of after))) is;
    }

-- what is due of the input of a source
pub record Due {A V : Type 0} (left : Option (List ℕ)) (value : A → V) (result : Result A LogFault) (due : List ℕ → Result V Refusal) : Type 0 where
  pub input : List ℕ
  pub has : HasInput left input
  pub gives : Gives value result (due input)

-- what is refused of an input is no failed read
of_input : {V : Type 0} (left : Option (List ℕ)) (due : List ℕ → Result V Refusal) (fault : LogFault) → (input : List ℕ) × HasInput left input × Refuses fault (due input) → RefusesInput left fault due
of_input left due (LogFault.Line line fault) h = h
of_input left due (LogFault.Key line key) h = h
of_input left due (LogFault.Clash line fault last) h = h
of_input left due (LogFault.SentTwice first second item) h = h
of_input left due LogFault.Empty h = h
of_input left due LogFault.Read h = tt
of_input left due LogFault.Memory h = h

given : {A V : Type 0} (left : Option (List ℕ)) (value : A → V) (due : List ℕ → Result V Refusal) (result : Result A LogFault) (input : List ℕ) → HasInput left input → Gives value result (due input) → GivesOfInput value left result due
given left value due (Ok x) input has gives = (input, has, gives)
given left value due (Err fault) input has gives = of_input left due fault (input, has, gives)

-- no further line
pub at_end : {A : Type 0} (left_first left : Option (List ℕ)) (l : Lines) (known : Known) (number : ℕ) (options : Options) (value : A → Spelled) (result : Result A LogFault) → HasLines l left [] [] → ((after : List ℕ) → IsAhead l left after → Leads options left_first known number after)
    → Gives value result (if_some options known) → GivesOfInput value left_first result (log_of options)
at_end left_first left l known number options value result none leads gives =
    let h = leads none.text none.ahead in
    given left_first value (log_of options) result h.input h.has (subst (λ r. Gives value result (r >>= if_some options)) (sym (h.same ∙ ap (λ lines. with_lines known number lines) none.lines_are)) gives)

-- a refused line
pub refused_line : (left_first left : Option (List ℕ)) (l : Lines) (known : Known) (number : ℕ) (options : Options) (line : List ℕ) (rest : List (List ℕ)) (fault : LogFault) → HasLines l left [] (line ∷ rest)
    → ((after : List ℕ) → IsAhead l left after → Leads options left_first known number after) → Refuses fault (with_line known number line) → (input : List ℕ) × HasInput left_first input × Refuses fault (log_of options input)
refused_line left_first left l known number options line rest fault has leads refuses =
    let h = leads has.text has.ahead in (
      h.input,
      h.has,
      subst (λ r. Refuses fault (r >>= if_some options)) (sym (h.same ∙ ap (λ lines. with_lines known number lines) has.lines_are))
          (refused_first fault (with_line known number line >>= (λ k. with_lines k (number + 1) rest)) (if_some options) (refused_first fault (with_line known number line) (λ k. with_lines k (number + 1) rest) refuses)),
    )

-- a line that is too long
pub long_refused : (known : Known) (number : ℕ) (line : List ℕ) → line_limit < length line → with_line known number line ≡ Err (bad_line number LineFault.TooLong)
long_refused known number line long = ap (λ b. if b then Err (bad_line number LineFault.TooLong) else (if is_blank line then Ok known else (tree_of number line >>= with_tree known number))) (lt-ltb line_limit (length line) long)

pub long_line : (left_first left : Option (List ℕ)) (l : Lines) (known : Known) (number : ℕ) (options : Options) (fault : LogFault) → IsLongLine number (IsTooLong l left) fault
    → ((after : List ℕ) → IsAhead l left after → Leads options left_first known number after) → RefusesInput left_first fault (log_of options)
long_line left_first left l known number options (LogFault.Line line fault) long leads =
    let t = long.2 in
    refused_line left_first left l known number options t.line t.rest (LogFault.Line line fault) t.has_lines leads
    (long_refused known number t.line t.long ∙ ap (λ n. Err (bad_line n LineFault.TooLong)) (sym long.0) ∙ ap (λ f. Err (bad_line line f)) (sym long.1))
long_line left_first left l known number options (LogFault.Key line key) long leads = absurd long
long_line left_first left l known number options (LogFault.Clash line fault last) long leads = absurd long
long_line left_first left l known number options (LogFault.SentTwice first second item) long leads = absurd long
long_line left_first left l known number options LogFault.Empty long leads = absurd long
long_line left_first left l known number options LogFault.Read long leads = tt
long_line left_first left l known number options LogFault.Memory long leads = let i = some_input left_first in (i.0, i.1, tt)

-- a line that was refused after it was read
pub line_refused : (left_first left_old left_new : Option (List ℕ)) (old new : Lines) (known : Known) (number : ℕ) (options : Options) (line : List ℕ) (fault : LogFault) → IsSound new left_new → GivesLine old new left_old left_new line
    → ((after : List ℕ) → IsAhead old left_old after → Leads options left_first known number after) → Refuses fault (with_line known number line) → RefusesInput left_first fault (log_of options)
line_refused left_first left_old left_new old new known number options line fault sound gives leads refuses =
    let some = some_ahead new left_new sound in
    of_input left_first (log_of options) fault (refused_line left_first left_old old known number options line (lines_of some.0) fault (gives some.0 some.1) leads refuses)

-- a fault that was passed on
pub passed_on : {A V : Type 0} (left : Option (List ℕ)) (value : A → V) (due : List ℕ → Result V Refusal) (result : Result A LogFault) (fault : LogFault) → IsErrAnd result (λ f. f ≡ fault)
    → RefusesInput left fault due → GivesOfInput value left result due
passed_on left value due (Ok x) fault h refused = absurd h
passed_on left value due (Err f) fault h refused = subst (λ x. RefusesInput left x due) (sym h) refused

pub no_memory : {V : Type 0} (left : Option (List ℕ)) (due : List ℕ → Result V Refusal) → RefusesInput left LogFault.Memory due
no_memory left due = let i = some_input left in (i.0, i.1, tt)

-- ---- the log of all lines

pub has_calls : (options : Options) (s : State) (known : Known) → Shows options s known → length s.log.calls.items ≡ length known.before
has_calls options s known shows = ap length shows.calls ∙ calls_length options.skew known.before

pub no_calls_given : (options : Options) (s : State) (known : Known) → Shows options s known → nat_eq (length s.log.calls.items) 0 ≡ true → if_some options known ≡ Err no_calls
no_calls_given options s known shows none = ap (λ b. if b then Err no_calls else Ok (spelled options known)) (ap (λ n. nat_eq n 0) (sym (has_calls options s known shows)) ∙ none)

-- whether the log is a part
part_given : (options : Options) (s : State) (known : Known) → Shows options s known → ((s.late || is_some options.window.from) || is_early s.log.ends) ≡ is_part known
part_given options s known shows =
    ap (λ (b : Bool). (b || is_some options.window.from) || is_early s.log.ends) shows.late ∙ ap (λ (w : Window). (known.late || is_some w.from) || is_early s.log.ends) (sym shows.window)
    ∙ ap (λ (o : Option Ending). (known.late || is_some known.window.from) || is_early o) shows.ends

pub finished : (options : Options) (s : State) (known : Known) (part : Bool) (calls : List Call) (items : ℕ) (ties : List Tie) → Shows options s known → nat_eq (length s.log.calls.items) 0 ≡ false → items ≡ length (keys s.items)
    → part ≡ ((s.late || is_some options.window.from) || is_early s.log.ends) → calls ≡ padded part s.log.rules.closes s.log.calls.items items
    → ties ≡ judged_ties options.times s.log.rules.ties.items
    → if_some options known ≡ Ok (record { part = part; ends = s.log.ends; calls = calls; items = items; lines = s.log.notes.lines.items; closes = s.log.rules.closes; ties = ties })
finished options s known part calls items ties shows some count part_is is ties_are =
    let same : part ≡ is_part known = part_is ∙ part_given options s known shows in
    let due = λ (b : Bool). λ (closes : Bool). padded b closes (calls_of options.skew known.before) (length (bodies_of known.before)) in
    let whole : calls ≡ padded (is_part known) known.closes (calls_of options.skew known.before) (length (bodies_of known.before)) =
    is ∙ ap (λ n. padded part s.log.rules.closes s.log.calls.items n) (count ∙ ap length shows.bodies) ∙ ap (λ cs. padded part s.log.rules.closes cs (length (bodies_of known.before))) shows.calls
    ∙ ap (λ b. due b s.log.rules.closes) same ∙ ap (λ b. due (is_part known) b) shows.closes in
    ap (λ b. if b then Err no_calls else Ok (spelled options known)) (ap (λ n. nat_eq n 0) (sym (has_calls options s known shows)) ∙ some)
    ∙ ap (λ cs. Ok (record { part = is_part known; ends = known.ends; calls = cs; items = length (bodies_of known.before); lines = numbers_of known.before; closes = known.closes; ties = judged_ties options.times (ties_of options.skew known.before) })) (sym whole)
    ∙ ap (λ b. Ok (record { part = is_part known; ends = known.ends; calls = calls; items = length (bodies_of known.before); lines = numbers_of known.before; closes = b; ties = judged_ties options.times (ties_of options.skew known.before) })) (sym shows.closes)
    ∙ ap (λ ts. Ok (record { part = is_part known; ends = known.ends; calls = calls; items = length (bodies_of known.before); lines = numbers_of known.before; closes = s.log.rules.closes; ties = ts })) (sym (ties_are ∙ ap (judged_ties options.times) shows.ties))
    ∙ ap (λ b. Ok (record { part = b; ends = known.ends; calls = calls; items = length (bodies_of known.before); lines = numbers_of known.before; closes = s.log.rules.closes; ties = ties })) (sym same)
    ∙ ap (λ e. Ok (record { part = part; ends = e; calls = calls; items = length (bodies_of known.before); lines = numbers_of known.before; closes = s.log.rules.closes; ties = ties })) (sym shows.ends)
    ∙ ap (λ n. Ok (record { part = part; ends = s.log.ends; calls = calls; items = n; lines = numbers_of known.before; closes = s.log.rules.closes; ties = ties })) (sym (count ∙ ap length shows.bodies))
    ∙ ap (λ ls. Ok (record { part = part; ends = s.log.ends; calls = calls; items = items; lines = ls; closes = s.log.rules.closes; ties = ties })) (sym shows.lines)

well_by : (times : Bool) (skew : ℕ) (calls : List Call) (items : ℕ) (ties : List Tie) → IsWellFormed skew calls items ties → IsWellFormed skew calls items (judged_ties times ties)
well_by true skew calls items ties well = record { written = well.written; differ = well.differ; below = well.below; tied = λ i tie is. absurd (cc is) }
well_by false skew calls items ties well = well

-- the log of all lines is well-formed
pub finished_well : (options : Options) (s : State) (known : Known) (part : Bool) (calls : List Call) (items : ℕ) (ties : List Tie) (result : Result (Unit {0}) LogFault) → Shows options s known → items ≡ length (keys s.items)
    → OnOk result (calls ≡ padded part s.log.rules.closes s.log.calls.items items) → ties ≡ judged_ties options.times s.log.rules.ties.items → OnOk result (IsWellFormed options.skew calls items ties)
finished_well options s known part calls items ties (Ok done) shows count is ties_are =
    let here : items ≡ length (bodies_of known.before) = count ∙ ap length shows.bodies in
    subst (λ (ts : List Tie). IsWellFormed options.skew calls items ts) (sym (ties_are ∙ ap (judged_ties options.times) shows.ties))
    (well_by options.times options.skew calls items (ties_of options.skew known.before)
    (subst (λ (cs : List Call). IsWellFormed options.skew cs items (ties_of options.skew known.before)) (sym (is ∙ ap (λ (cs : List Call). padded part s.log.rules.closes cs items) shows.calls))
    (subst (λ (n : ℕ). IsWellFormed options.skew (padded part s.log.rules.closes (calls_of options.skew known.before) n) n (ties_of options.skew known.before)) (sym here)
    (log_well_formed part s.log.rules.closes options.skew known.before shows.fair))))
finished_well options s known part calls items ties (Err fault) shows count is ties_are = tt
