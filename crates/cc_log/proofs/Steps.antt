-- One line of a log: its tree, and what is known after it.
use Rattle.std.proofs.Common.{◌≡◌, ◌++◌, ◌&&◌, ℕ, true, false, not, nat_eq, Bool, if◌then◌else◌, List, [], ◌∷◌, length, Option, Some, None, Result, Ok, Err, refl, sym, ap, subst, ◌∙◌, arith, length-append}
use Rattle.std.specs.Str.{bytes_eq}
use Rattle.std.specs.HashMap.{keys}
use Rattle.std.specs.Result.{IsErrAnd}
use Rattle.serde_json.specs.Data.{Data}
use Rattle.cc_log.specs.Names.{Ending, Last, Line, LineFault, LogFault, Options, Said, State, Window}
use Rattle.cc_log.specs.Answers.{Refuses}
use Rattle.cc_log.specs.Line.{Body, begins_late, ending_in, line_of, thread_of}
use Rattle.cc_log.specs.Log.{Entry, Known, Refusal, ◌>>=◌, after_last, allowed, call_of, calls_of, bodies_of, differs, entry_of, is_close, is_first, item_in, last_of, or_refusal, sender_of, sends, tie_with, ties_of, not_ended, with_call, with_close, with_cut, with_end, with_entry, with_item, with_tree}
use Rattle.cc_log.specs.Window.{cut}
use Rattle.cc_log.proofs.Fair.{IsRead, cut_read, fair, line_read}
use Rattle.cc_log.specs.State.{Added, Adds, IsStep, Shows, last_in, sender_in}

-- a refusal stays one, whatever was to come after it
pub refused_first : {A B : Type 0} (fault : LogFault) (due : Result A Refusal) (next : A → Result B Refusal) → Refuses fault due → Refuses fault (due >>= next)
refused_first (LogFault.Line line fault) due next h = ap (λ r. r >>= next) h
refused_first (LogFault.Key line key) due next h = ap (λ r. r >>= next) h
refused_first (LogFault.Clash line fault last) due next h = ap (λ r. r >>= next) h
refused_first (LogFault.SentTwice first second item) due next h = ap (λ r. r >>= next) h
refused_first LogFault.Empty due next h = ap (λ r. r >>= next) h
refused_first LogFault.Read due next h = absurd h
refused_first LogFault.Memory due next h = tt

pub refused_next : {A B : Type 0} (fault : LogFault) (due : Result A Refusal) (x : A) (next : A → Result B Refusal) → due ≡ Ok x → Refuses fault (next x) → Refuses fault (due >>= next)
refused_next fault due x next is h = subst (λ r. Refuses fault (r >>= next)) (sym is) h

-- the item of a call that may not come next
pub refused_item : (fault : LogFault) (e : Entry) (last : Option Last) (sender : Body → Option ℕ) → or_refusal e.number (after_last e.line.begin last) ≡ Ok tt → Refuses fault (differs e.number e.line.said sender) → Refuses fault (allowed e last sender)
refused_item fault e last sender free h = refused_next fault (or_refusal e.number (after_last e.line.begin last)) tt (λ free. differs e.number e.line.said sender) free h

pub allowed_given : (e : Entry) (last : Option Last) (sender : Body → Option ℕ) → or_refusal e.number (after_last e.line.begin last) ≡ Ok tt → differs e.number e.line.said sender ≡ Ok tt → allowed e last sender ≡ Ok tt
allowed_given e last sender free new = ap (λ r. r >>= (λ free. differs e.number e.line.said sender)) free ∙ new

-- only the sender of its own item counts
same_sender : (number : ℕ) (said : Said) (f g : Body → Option ℕ) → ((body : Body) → f body ≡ g body) → differs number said f ≡ differs number said g
same_sender number (Said.Send body) f g same = ap (λ o. differs number (Said.Send body) (λ b. o)) (same body)
same_sender number (Said.Took body) f g same = refl
same_sender number Said.FoundNone f g same = refl
same_sender number Said.Taking f g same = refl
same_sender number (Said.Full body) f g same = refl
same_sender number (Said.Closed body) f g same = refl
same_sender number Said.Ended f g same = refl
same_sender number Said.Close f g same = refl

-- what the state has decides whether a call may come next
decided : (options : Options) (s : State) (known : Known) (e : Entry) → Shows options s known → allowed e (last_in s e.thread) (sender_in s.items) ≡ allowed e (last_of e.thread known.before) (λ body. sender_of body known.before)
decided options s known e shows =
    ap (λ last. allowed e last (sender_in s.items)) (shows.lasts e.thread)
    ∙ ap (λ r. or_refusal e.number (after_last e.line.begin (last_of e.thread known.before)) >>= (λ free. r)) (same_sender e.number e.line.said (sender_in s.items) (λ body. sender_of body known.before) shows.senders)

pub calls_length : (skew : ℕ) (before : List Entry) → length (calls_of skew before) ≡ length before
calls_length skew [] = refl
calls_length skew (e ∷ before) = length-append (calls_of skew before) (call_of skew (bodies_of before) e.line ∷ []) ∙ omega (arith, calls_length skew before)

place_of : (options : Options) (s : State) (known : Known) → Shows options s known → length s.log.calls.items ≡ length known.before
place_of options s known shows = ap length shows.calls ∙ calls_length options.skew known.before

-- the state after a call
pub shown_after : (options : Options) (s new : State) (known : Known) (e : Entry) → IsRead e.line → Shows options s known → Added s new e → Shows options new (record known { before = e ∷ known.before })
shown_after options s new known e read shows added =
    let place : added.place ≡ length known.before = added.place_is ∙ place_of options s known shows in
    let skew : s.log.options.skew ≡ options.skew = ap (λ (o : Options). o.skew) shows.options_is in
    record {
      options_is = added.options ∙ shows.options_is;
      capacity = added.capacity ∙ shows.capacity;
      window = shows.window;
      late = added.late ∙ shows.late;
      ends = added.ends ∙ shows.ends;
      bodies = added.bodies ∙ ap (λ bodies. with_item bodies (item_in e.line.said)) shows.bodies;
      senders = λ body. added.senders body ∙ ap (λ o. if sends body e.line.said then Some e.number else o) (shows.senders body);
      lasts = λ thread. added.lasts thread ∙ ap (λ p. if bytes_eq e.thread thread then Some (record { begin = e.line.begin; end = e.line.end; place = p }) else last_in s thread) place
          ∙ ap (λ o. if bytes_eq e.thread thread then Some (record { begin = e.line.begin; end = e.line.end; place = length known.before }) else o) (shows.lasts thread);
      calls = added.calls ∙ ap (λ calls. calls ++ call_of s.log.options.skew (keys s.items) e.line ∷ []) shows.calls
          ∙ ap (λ bodies. calls_of options.skew known.before ++ call_of s.log.options.skew bodies e.line ∷ []) shows.bodies
          ∙ ap (λ n. calls_of options.skew known.before ++ call_of n (bodies_of known.before) e.line ∷ []) skew;
      lines = added.lines ∙ ap (λ lines. lines ++ e.number ∷ []) shows.lines;
      ties = added.ties ∙ ap (λ ties. ties ++ tie_with s.log.options.skew added.place e.line.begin (last_in s e.thread)) shows.ties
          ∙ ap (λ n. ties_of options.skew known.before ++ tie_with n added.place e.line.begin (last_in s e.thread)) skew
          ∙ ap (λ p. ties_of options.skew known.before ++ tie_with options.skew p e.line.begin (last_in s e.thread)) place
          ∙ ap (λ last. ties_of options.skew known.before ++ tie_with options.skew (length known.before) e.line.begin last) (shows.lasts e.thread);
      closes = added.closes ∙ shows.closes;
      fair = (fair e.line read added.low, sym (decided options s known e shows) ∙ added.is_allowed, shows.fair);
    }

-- a call that was added, or refused
pub step_of_entry : (options : Options) (s new : State) (known : Known) (e : Entry) (result : Result (Unit {0}) LogFault) → IsRead e.line → Shows options s known → Adds s new e result → IsStep options (with_entry known e) result new
step_of_entry options s new known e (Ok done) read shows added = (
  record known { before = e ∷ known.before },
  ap (λ r. r >>= (λ fine. Ok (record known { before = e ∷ known.before }))) (sym (decided options s known e shows) ∙ added.is_allowed),
  shown_after options s new known e read shows added,
)
step_of_entry options s new known e (Err fault) read shows refused =
    refused_first fault (allowed e (last_of e.thread known.before) (λ body. sender_of body known.before)) (λ fine. Ok (record known { before = e ∷ known.before }))
    (subst (Refuses fault) (decided options s known e shows) refused)

-- no call came before
first_when : (options : Options) (s : State) (known : Known) → Shows options s known → is_first known ≡ (nat_eq (length s.log.calls.items) 0 && not s.late)
first_when options s known shows = ap (λ n. nat_eq n 0 && not known.late) (sym (place_of options s known shows)) ∙ ap (λ b. nat_eq (length s.log.calls.items) 0 && not b) (sym shows.late)

-- what comes of a line that describes a call
abbrev cut_entry : Known → Entry → Result Known Refusal
cut_entry known e = with_cut (with_close known e.line.said) e (cut known.window e.line)

-- the state after that notes a close
abbrev pub noted : State → (closes : Bool) → State
noted s closes = record s { log = record s.log { rules = record s.log.rules { closes = closes } } }

-- it shows what is known then
noted_shows : (options : Options) (s : State) (known : Known) (said : Said) (closes : Bool) → closes ≡ (if is_close said then true else s.log.rules.closes)
    → Shows options s known → Shows options (noted s closes) (with_close known said)
noted_shows options s known said closes is shows = record {
  options_is = shows.options_is;
  window = shows.window;
  capacity = shows.capacity;
  late = shows.late;
  ends = shows.ends;
  bodies = shows.bodies;
  senders = shows.senders;
  lasts = shows.lasts;
  calls = shows.calls;
  lines = shows.lines;
  ties = shows.ties;
  closes = is ∙ ap (λ (b : Bool). if is_close said then true else b) shows.closes;
  fair = shows.fair;
}

-- the window of the state is that of what is known
window_is : (options : Options) (s : State) (known : Known) → Shows options s known → s.log.options.window ≡ known.window
window_is options s known shows = ap (λ (o : Options). o.window) shows.options_is ∙ sym shows.window

-- such a call, as it is judged
tree_of_cut : (options : Options) (s : State) (known : Known) (number : ℕ) (d : Data) (e : Entry) (o : Option Line) → Shows options s known
    → entry_of number d ≡ Ok e → cut s.log.options.window e.line ≡ o → with_call known number d ≡ with_cut (with_close known e.line.said) e o
tree_of_cut options s known number d e o shows is cuts =
    ap (λ r. r >>= cut_entry known) is ∙ ap (with_cut (with_close known e.line.said) e) (ap (λ (w : Window). cut w e.line) (sym (window_is options s known shows)) ∙ cuts)

-- one outside of the window
pub step_of_none : (options : Options) (s : State) (known : Known) (number : ℕ) (d : Data) (e : Entry) (closes : Bool) → Shows options s known
    → closes ≡ (if is_close e.line.said then true else s.log.rules.closes)
    → entry_of number d ≡ Ok e → cut s.log.options.window e.line ≡ None → IsStep options (with_call known number d) (Ok tt) (noted s closes)
step_of_none options s known number d e closes shows notes is cuts = (with_close known e.line.said, tree_of_cut options s known number d e None shows is cuts, noted_shows options s known e.line.said closes notes shows)

-- its line is one that was read
value_or : {A : Type 0} → A → Result A Refusal → A
value_or other (Ok x) = x
value_or other (Err refusal) = other

read_if : (number : ℕ) (r : Result Line LineFault) (line : Line) → or_refusal number r ≡ Ok line → r ≡ Ok line
unfolding value_or
read_if number (Ok x) line is = ap (λ (y : Line). Ok y) (ap (value_or x) is)
read_if number (Err fault) line is = absurd (cc is)

entry_by : (number : ℕ) (d : Data) (e : Entry) (r : Result Line Refusal) (t : Result (List ℕ) Refusal) → (r >>= (λ line. t >>= (λ thread. Ok (record { number = number; thread = thread; line = line })))) ≡ Ok e → r ≡ Ok e.line
unfolding value_or
entry_by number d e (Ok line) (Ok thread) is = ap (λ (x : Entry). Ok x.line) (ap (value_or (record { number = number; thread = thread; line = line })) is)
entry_by number d e (Ok line) (Err fault) is = absurd (cc is)
entry_by number d e (Err fault) t is = absurd (cc is)

entry_read : (number : ℕ) (d : Data) (e : Entry) → entry_of number d ≡ Ok e → IsRead e.line
entry_read number d e is = line_read d e.line (read_if number (line_of d) e.line (entry_by number d e (or_refusal number (line_of d)) (or_refusal number (thread_of d)) is))

-- one within
pub step_of_call : (options : Options) (s new : State) (known : Known) (number : ℕ) (d : Data) (e : Entry) (line : Line) (closes : Bool) (result : Result (Unit {0}) LogFault) → Shows options s known
    → closes ≡ (if is_close e.line.said then true else s.log.rules.closes)
    → entry_of number d ≡ Ok e → cut s.log.options.window e.line ≡ Some line → Adds (noted s closes) new (record { number = e.number; thread = e.thread; line = line }) result → IsStep options (with_call known number d) result new
step_of_call options s new known number d e line closes result shows notes is cuts adds =
    subst (λ due. IsStep options due result new) (sym (tree_of_cut options s known number d e (Some line) shows is cuts)) (step_of_entry options (noted s closes) new (with_close known e.line.said) (record { number = e.number; thread = e.thread; line = line }) result (cut_read s.log.options.window e.line line (entry_read number d e is) cuts) (noted_shows options s known e.line.said closes notes shows) adds)

pub refused_call : (known : Known) (number : ℕ) (d : Data) (fault : LogFault) → Refuses fault (entry_of number d) → Refuses fault (with_call known number d)
refused_call known number d fault h = refused_first fault (entry_of number d) (cut_entry known) h

-- ---- whether a line says how the log begins or ends

-- what comes of a line after those that say nothing of the end
abbrev beginning_or_not : Known → (number : ℕ) → Data → Bool → Result Known Refusal
beginning_or_not known number d b = if b then Ok (record known { late = true }) else with_end known number d (ending_in d)

-- a line after the end
pub refused_after_end : (options : Options) (s : State) (known : Known) (number : ℕ) (d : Data) (fault : LogFault) → Shows options s known → Refuses fault (not_ended number s.log.ends) → Refuses fault (with_tree known number d)
refused_after_end options s known number d fault shows h =
    refused_first fault (not_ended number known.ends) (λ goes_on. beginning_or_not known number d (is_first known && begins_late d)) (subst (λ ends. Refuses fault (not_ended number ends)) shows.ends h)

-- a line before it
tree_before_end : (options : Options) (s : State) (known : Known) (number : ℕ) (d : Data) (b : Bool) → Shows options s known → not_ended number s.log.ends ≡ Ok tt
    → ((nat_eq (length s.log.calls.items) 0 && not s.late) && begins_late d) ≡ b → with_tree known number d ≡ beginning_or_not known number d b
tree_before_end options s known number d b shows goes_on is =
    ap (λ r. r >>= (λ fine. beginning_or_not known number d (is_first known && begins_late d))) (ap (not_ended number) (sym shows.ends) ∙ goes_on)
    ∙ ap (beginning_or_not known number d) (ap (λ first. first && begins_late d) (first_when options s known shows) ∙ is)

-- the line that says that the log begins late
pub step_of_beginning : (options : Options) (s : State) (known : Known) (number : ℕ) (d : Data) → Shows options s known → not_ended number s.log.ends ≡ Ok tt
    → ((nat_eq (length s.log.calls.items) 0 && not s.late) && begins_late d) ≡ true → IsStep options (with_tree known number d) (Ok tt) (record s { late = true })
step_of_beginning options s known number d shows goes_on first = (
  record known { late = true },
  tree_before_end options s known number d true shows goes_on first,
  record { options_is = shows.options_is; window = shows.window; capacity = shows.capacity; late = refl; ends = shows.ends; bodies = shows.bodies; senders = shows.senders; lasts = shows.lasts; calls = shows.calls; lines = shows.lines; ties = shows.ties; closes = shows.closes; fair = shows.fair },
)

-- the one that says how it ends
pub step_of_end : (options : Options) (s : State) (known : Known) (number : ℕ) (d : Data) (ends : Ending) → Shows options s known → not_ended number s.log.ends ≡ Ok tt
    → ((nat_eq (length s.log.calls.items) 0 && not s.late) && begins_late d) ≡ false → ending_in d ≡ Some ends → IsStep options (with_tree known number d) (Ok tt) (record s { log = record s.log { ends = Some ends } })
step_of_end options s known number d ends shows goes_on other is = (
  record known { ends = Some ends },
  tree_before_end options s known number d false shows goes_on other ∙ ap (with_end known number d) is,
  record { options_is = shows.options_is; window = shows.window; capacity = shows.capacity; late = shows.late; ends = refl; bodies = shows.bodies; senders = shows.senders; lasts = shows.lasts; calls = shows.calls; lines = shows.lines; ties = shows.ties; closes = shows.closes; fair = shows.fair },
)

-- any other line
pub step_of_other : (options : Options) (s new : State) (known : Known) (number : ℕ) (d : Data) (result : Result (Unit {0}) LogFault) → Shows options s known → not_ended number s.log.ends ≡ Ok tt
    → ((nat_eq (length s.log.calls.items) 0 && not s.late) && begins_late d) ≡ false → ending_in d ≡ None → IsStep options (with_call known number d) result new → IsStep options (with_tree known number d) result new
step_of_other options s new known number d result shows goes_on other is step =
    subst (λ due. IsStep options due result new) (sym (tree_before_end options s known number d false shows goes_on other ∙ ap (with_end known number d) is)) step

-- a fault that was passed on
pub fault_passed : (old new : State) (e : Entry) (result : Result (Unit {0}) LogFault) (fault : LogFault) → IsErrAnd result (λ f. f ≡ fault) → Refuses fault (allowed e (last_in old e.thread) (sender_in old.items)) → Adds old new e result
fault_passed old new e (Ok done) fault h refused = absurd h
fault_passed old new e (Err f) fault h refused = subst (λ x. Refuses x (allowed e (last_in old e.thread) (sender_in old.items))) (sym h) refused
