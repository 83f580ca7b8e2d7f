-- The judge's queue goes where the sequential queue does: one call.
use Rattle.std.proofs.Common.{◌≡◌, ◌≢◌, ◌⊎◌, ℕ, zero, suc, ◌+◌, ◌≤◌, Bool, true, false, ◌||◌, List, [], ◌∷◌, ◌++◌, length, map, drop, Option, Some, None, inl, inr, refl, sym, ap, ◌∙◌, subst, arith, append-nil}
use Rattle.std.proofs.lemmas.List.{map-append, length-map, drop-append-le, drop_all, length-drop}
use Rattle.std.specs.List.{slice_get}
use Rattle.cc_model.specs.Items.{accepted_item, shuts, handed_item}
use Rattle.cc_model.specs.Legal.{IsSenders}
use Rattle.cc_model.specs.Sequential.{Exactly}
use Rattle.cc_judge.specs.Order.{Does, Allows, closed_after}
use Rattle.cc_agree.specs.Names.{Body, Pass, Call, Item, Entry, Answer, SendAnswer, CloseAnswer, TakeAnswer, Config, Act}
use Rattle.cc_agree.specs.OneQueue.{begun, returned, ChangesNothing}

-- ---- what waits: the items from the first that wasn't handed, by their numbers

abbrev pub numbers : (Body → ℕ) → List Item → List ℕ
numbers number items = map (λ (x : Item). number x.body) items

abbrev pub waiting : (Body → ℕ) → (out : ℕ) → List Item → List ℕ
waiting number out items = drop out (numbers number items)

pub length-waiting : (number : Body → ℕ) (out : ℕ) (items : List Item) → out ≤ length items → length (waiting number out items) + out ≡ length items
length-waiting number out items few = omega (arith, length-drop out (numbers number items), length-map items (λ (x : Item). number x.body), few)

pub waiting_more : (number : Body → ℕ) (out : ℕ) (items : List Item) (x : Item) → out ≤ length items → waiting number out (items ++ x ∷ []) ≡ waiting number out items ++ number x.body ∷ []
waiting_more number out items x few =
    ap (λ (l : List ℕ). drop out l) (map-append (λ (y : Item). number y.body) items (x ∷ []))
    ∙ drop-append-le out (numbers number items) (number x.body ∷ []) (omega (arith, few, length-map items (λ (y : Item). number y.body)))

pub waiting_next : (number : Body → ℕ) (out : ℕ) (items : List Item) (x : Item) → slice_get items out ≡ Some x → waiting number out items ≡ number x.body ∷ waiting number (suc out) items
waiting_next number out [] x is = absurd (cc)
waiting_next number zero (y ∷ items) x is = let same : y ≡ x = cc in ap (λ (z : Item). number z.body ∷ numbers number items) same
waiting_next number (suc out) (y ∷ items) x is = waiting_next number out items x is

pub waiting_none : (number : Body → ℕ) (out : ℕ) (items : List Item) → length items ≤ out → waiting number out items ≡ []
waiting_none number out items all = drop_all out (numbers number items) (omega (arith, all, length-map items (λ (y : Item). number y.body)))

-- ---- what reports a call

-- `told`, or only that a take found none
abbrev pub MayReport : Option Act → Act → Type 0
MayReport told act = (told ≡ Some act) ⊎ ((told ≡ Some Act.Ended) × (act ≡ Act.FoundNone))

only : (a act : Act) → a ≢ Act.Ended → MayReport (Some a) act → a ≡ act
only a act other (inl is) = cc
only a act other (inr ended) = absurd (other (let e : Some a ≡ Some Act.Ended = ended.0 in cc))

none_reports : (act : Act) → MayReport None act → ⊥
none_reports act (inl is) = absurd (cc)
none_reports act (inr ended) = let e : None ≡ Some Act.Ended = ended.0 in absurd (cc)

-- ---- one call

-- the judge's queue does this, of a queue that has accepted these items, handed `out` of them, and is shut or not
abbrev pub Goes : Config → (Body → ℕ) → List Item → (shut : Bool) → (out : ℕ) → Act → List Item → Bool → ℕ → Type 0
Goes cfg number items shut out act items' shut' out' = Does (Some cfg.capacity) (waiting number out items) act (waiting number out' items') × Allows shut act × (closed_after shut act ≡ shut')

-- nothing is accepted
still : (number : Body → ℕ) (out : ℕ) (items : List Item) → waiting number out (items ++ []) ≡ waiting number out items
still number out items = ap (waiting number out) (append-nil items)

pub send_goes : (cfg : Config) (number : Body → ℕ) (items : List Item) (shut : Bool) (out : ℕ) → out ≤ length items → (pass : Pass) (k : Call) (n known : ℕ) (a : Answer) → IsSenders cfg pass k → Exactly cfg items shut 0 out k a
    → (act : Act) → MayReport (returned number (begun number k) a) act → Goes cfg number items shut out act (items ++ accepted_item (record { pass = pass; call = k; number = n; known = known }) a) (shut || (shuts a || false)) out
send_goes cfg number items true out few (Pass.Sender s) (Call.Send body) n known (Answer.Send SendAnswer.Closed) is h act t =
    subst (λ (z : Act). Goes cfg number items true out z (items ++ []) true out) (only Act.Closed act (λ e. cc) t) (still number out items, refl, refl)
send_goes cfg number items false out few (Pass.Sender s) (Call.Send body) n known (Answer.Send (SendAnswer.Accepted place)) is h act t =
    let x : Item = record { place = place; sender = s; number = n; body = body } in
    subst (λ (z : Act). Goes cfg number items false out z (items ++ x ∷ []) false out) (only (Act.Send (number body)) act (λ e. cc) t)
    ((waiting_more number out items x few, omega (arith, length-waiting number out items few, h.2)), refl, refl)
send_goes cfg number items false out few (Pass.Sender s) (Call.Send body) n known (Answer.Send SendAnswer.Full) is h act t =
    subst (λ (z : Act). Goes cfg number items false out z (items ++ []) false out) (only Act.Full act (λ e. cc) t) ((still number out items, omega (arith, length-waiting number out items few, h.2)), refl, refl)
send_goes cfg number items false out few (Pass.Sender s) (Call.Send body) n known (Answer.Send SendAnswer.Spent) is h act t = absurd (none_reports act t)
send_goes cfg number items true out few (Pass.Sender s) Call.Close n known (Answer.Close (CloseAnswer.Already total)) is h act t =
    subst (λ (z : Act). Goes cfg number items true out z (items ++ []) true out) (only Act.Close act (λ e. cc) t) (still number out items, tt, refl)
send_goes cfg number items false out few (Pass.Sender s) Call.Close n known (Answer.Close (CloseAnswer.Shut total)) is h act t =
    subst (λ (z : Act). Goes cfg number items false out z (items ++ []) true out) (only Act.Close act (λ e. cc) t) (still number out items, tt, refl)
send_goes cfg number items false out few (Pass.Sender s) (Call.Send body) n known (Answer.Send SendAnswer.Closed) is h act t = let e : false ≡ true = h in absurd (cc)
send_goes cfg number items true out few (Pass.Sender s) (Call.Send body) n known (Answer.Send (SendAnswer.Accepted place)) is h act t = let e : true ≡ false = h.0 in absurd (cc)
send_goes cfg number items true out few (Pass.Sender s) (Call.Send body) n known (Answer.Send SendAnswer.Full) is h act t = let e : true ≡ false = h.0 in absurd (cc)
send_goes cfg number items true out few (Pass.Sender s) (Call.Send body) n known (Answer.Send SendAnswer.Spent) is h act t = absurd (none_reports act t)
send_goes cfg number items false out few (Pass.Sender s) Call.Close n known (Answer.Close (CloseAnswer.Already total)) is h act t = let e : false ≡ true = h.0 in absurd (cc)
send_goes cfg number items true out few (Pass.Sender s) Call.Close n known (Answer.Close (CloseAnswer.Shut total)) is h act t = let e : true ≡ false = h.0 in absurd (cc)
send_goes cfg number items shut out few (Pass.Sender s) (Call.Send body) n known (Answer.Close told) is h act t = absurd h
send_goes cfg number items shut out few (Pass.Sender s) (Call.Send body) n known (Answer.Take told) is h act t = absurd h
send_goes cfg number items shut out few (Pass.Sender s) Call.Close n known (Answer.Send told) is h act t = absurd h
send_goes cfg number items shut out few (Pass.Sender s) Call.Close n known (Answer.Take told) is h act t = absurd h
send_goes cfg number items shut out few (Pass.Sender s) Call.Take n known a is h act t = absurd is
send_goes cfg number items shut out few (Pass.Receiver r) k n known a is h act t = absurd is

pub take_goes : (cfg : Config) (number : Body → ℕ) (items : List Item) (shut : Bool) (out : ℕ) → out ≤ length items → (a : Answer) → Exactly cfg items shut out out Call.Take a → (act : Act) → MayReport (returned number Act.Taking a) act
    → (out' : ℕ) → out' ≡ out + length (handed_item a) → Goes cfg number items shut out act items shut out'
take_goes cfg number items shut out few (Answer.Take (TakeAnswer.Got item)) h act t out' is =
    let next : suc out ≡ out' = omega (arith, is) in
    subst (λ (z : Act). Goes cfg number items shut out z items shut out') (only (Act.Took (number item.body)) act (λ e. cc) t)
    (subst (λ (n : ℕ). waiting number out items ≡ number item.body ∷ waiting number n items) next (waiting_next number out items item h), tt, refl)
take_goes cfg number items shut out few (Answer.Take TakeAnswer.Empty) h act t out' is =
    subst (λ (z : Act). Goes cfg number items shut out z items shut out') (only Act.FoundNone act (λ e. cc) t)
    ((waiting_none number out items (omega (arith, h.1)), waiting_none number out' items (omega (arith, h.1, is))), tt, refl)
take_goes cfg number items shut out few (Answer.Take (TakeAnswer.Ended total)) h act (inl told) out' is =
    let e : Act.Ended ≡ act = (let s : Some Act.Ended ≡ Some act = told in cc) in
    subst (λ (z : Act). Goes cfg number items shut out z items shut out') e
    ((waiting_none number out items (omega (arith, h.1)), waiting_none number out' items (omega (arith, h.1, is))), h.0, refl)
take_goes cfg number items shut out few (Answer.Take (TakeAnswer.Ended total)) h act (inr none) out' is =
    subst (λ (z : Act). Goes cfg number items shut out z items shut out') (sym none.1)
    ((waiting_none number out items (omega (arith, h.1)), waiting_none number out' items (omega (arith, h.1, is))), tt, refl)
take_goes cfg number items shut out few (Answer.Send told) h act t out' is = absurd h
take_goes cfg number items shut out few (Answer.Close told) h act t out' is = absurd h

-- ---- one that changes nothing

pub accepts_none : (e : Entry) (a : Answer) → ChangesNothing a → accepted_item e a ≡ []
accepts_none e (Answer.Send (SendAnswer.Accepted place)) same = absurd same
accepts_none e (Answer.Send SendAnswer.Full) same = refl
accepts_none e (Answer.Send SendAnswer.Closed) same = refl
accepts_none e (Answer.Send SendAnswer.Spent) same = refl
accepts_none e (Answer.Close told) same = refl
accepts_none e (Answer.Take told) same = refl

pub shuts_none : (a : Answer) → ChangesNothing a → shuts a ≡ false
shuts_none (Answer.Close (CloseAnswer.Shut total)) same = absurd same
shuts_none (Answer.Close (CloseAnswer.Already total)) same = refl
shuts_none (Answer.Send told) same = refl
shuts_none (Answer.Take told) same = refl

pub hands_none : (a : Answer) → ChangesNothing a → handed_item a ≡ []
hands_none (Answer.Take (TakeAnswer.Got item)) same = absurd same
hands_none (Answer.Take TakeAnswer.Empty) same = refl
hands_none (Answer.Take (TakeAnswer.Ended total)) same = refl
hands_none (Answer.Send told) same = refl
hands_none (Answer.Close told) same = refl
