-- The number of a send is how many sends its pass has begun by then: also of one that was made again and again.
use Rattle.std.proofs.Common.{◌≡◌, ℕ, ◌+◌, Bool, true, false, ◌==◌, if◌then◌else◌, List, [], ◌∷◌, ◌++◌, map, length, Option, Some, None, refl, sym, ap, ◌∙◌, subst, arith, length-append}
use Rattle.std.proofs.lemmas.Bool.{eq-eqb, eqb-false, eqb-true, ne_eqb, true≢false}
use Rattle.cc_model.specs.Items.{calls_of, is_pass}
use Rattle.cc_model.specs.Legal.{CountsFrom, send_number, send_numbers}
use Rattle.cc_model.proofs.Grows.{send_numbers-append}
use Rattle.cc_drive.specs.Names.{Answer, Body, Call, Config, Entry, Pass}
use Rattle.cc_steps.specs.Walk.{Walk}
use Rattle.cc_queue.specs.Calls.{Completed}
use Rattle.cc_queue.specs.Headline.{entry_of, name, history}
use Rattle.cc_queue.specs.SendCount.{HasBegunSends, is_send, sends_in}
use Rattle.cc_queue.proofs.OnItsSide.{Told, its, kept, on_its_side}
use Rattle.cc_drive.proofs.Told.{same_name}

abbrev entries : List Told → List Entry
entries zs = map (λ z. z.0) zs

-- a call of this sender, or of another pass
flipped : (n t : ℕ) (b : Bool) → (n == t) ≡ b → (t == n) ≡ b
flipped n t true is = eq-eqb t n (sym (eqb-true n t is))
flipped n t false is = ne_eqb t n (λ e. eqb-false n t is (sym e))

other : (n : ℕ) (p : Pass) (c : Call) (m : ℕ) → is_pass (Pass.Sender n) p ≡ false → send_number n p c m ≡ []
other n (Pass.Sender t) (Call.Send body) m is = ap (λ (b : Bool). if b then m ∷ [] else []) (flipped n t false is)
other n (Pass.Sender t) Call.Close m is = refl
other n (Pass.Sender t) Call.Take m is = refl
other n (Pass.Receiver r) c m is = refl

own : (n : ℕ) (p : Pass) (c : Call) (m : ℕ) → is_pass (Pass.Sender n) p ≡ true → length (send_number n p c m) ≡ is_send c
own n (Pass.Sender t) (Call.Send body) m is = ap (λ (b : Bool). length (if b then m ∷ [] else [])) (flipped n t true is)
own n (Pass.Sender t) Call.Close m is = refl
own n (Pass.Sender t) Call.Take m is = refl
own n (Pass.Receiver r) c m is = absurd (true≢false (sym is))

-- the numbers of a sender's sends are those of its own calls, and as many
record Numbered (n : ℕ) (calls : List Entry) (zs : List Told) : Type 0 where
  pub numbers : send_numbers n (entries zs) ≡ send_numbers n calls
  pub count : length (send_numbers n calls) ≡ sends_in (entries zs)

one_more : (n : ℕ) (c : Entry) (told : Option Answer) (calls : List Entry) (zs : List Told) → Numbered n calls zs → Numbered n (c ∷ calls) (kept (is_pass (Pass.Sender n) c.pass) (c, told) zs)
one_more n c told calls zs are = go (is_pass (Pass.Sender n) c.pass) refl
  where
    go : (b : Bool) → is_pass (Pass.Sender n) c.pass ≡ b → Numbered n (c ∷ calls) (kept b (c, told) zs)
    go true is = record {
      numbers = ap (λ l. send_number n c.pass c.call c.number ++ l) are.numbers;
      count = length-append (send_number n c.pass c.call c.number) (send_numbers n calls) ∙ (λ i. own n c.pass c.call c.number is i + are.count i);
    }
    go false is = record {
      numbers = are.numbers ∙ ap (λ l. l ++ send_numbers n calls) (sym (other n c.pass c.call c.number is));
      count = ap (λ l. length (l ++ send_numbers n calls)) (other n c.pass c.call c.number is) ∙ are.count;
    }

numbered : (n : ℕ) (calls : List Entry) (answers : List Answer) → Numbered n calls (its (Pass.Sender n) calls answers)
numbered n [] answers = record { numbers = refl; count = refl }
numbered n (c ∷ calls) [] = one_more n c None calls (its (Pass.Sender n) calls []) (numbered n calls [])
numbered n (c ∷ calls) (a ∷ answers) = one_more n c (Some a) calls (its (Pass.Sender n) calls answers) (numbered n calls answers)

-- the last of numbers that go up by one
last_counts : (n : ℕ) (xs : List ℕ) (m : ℕ) → CountsFrom n (xs ++ m ∷ []) → m ≡ n + length xs
last_counts n [] m counts = counts.0 ∙ omega arith
last_counts n (x ∷ xs) m counts = last_counts (n + 1) xs m counts.1 ∙ omega arith

pub number_is : (n count : ℕ) (w x : Walk) (body : Body) (told : Answer) → name w ≡ Pass.Sender n → Completed w (Call.Send body) told x → HasBegunSends x count → w.stand.begun + 1 ≡ count
number_is n count w x body told who done begun =
    let s = done.stands in
    let cfg : Config = x.setting.config in
    let named : name x ≡ Pass.Sender n = same_name w x (entry_of w (Call.Send body) ∷ []) s ∙ who in
    let calls : calls_of (name x) (history x) ≡ its (Pass.Sender n) (history x).sends.calls (history x).sends.answers =
    ap (λ (p : Pass). calls_of p (history x)) named ∙ on_its_side cfg (history x) (Pass.Sender n) s.legal in
    let made : entries (its (Pass.Sender n) (history x).sends.calls (history x).sends.answers) ≡ w.made ++ entry_of w (Call.Send body) ∷ [] = ap (map (λ (z : Told). z.0)) (sym calls) ∙ s.calls_are ∙ s.made in
    let are = numbered n (history x).sends.calls (history x).sends.answers in
    let it : send_number n (name w) (Call.Send body) (w.stand.begun + 1) ≡ (w.stand.begun + 1) ∷ [] =
    ap (λ (p : Pass). send_number n p (Call.Send body) (w.stand.begun + 1)) who ∙ ap (λ (b : Bool). if b then (w.stand.begun + 1) ∷ [] else []) (eq-eqb n n refl) in
    let numbers : send_numbers n (history x).sends.calls ≡ send_numbers n w.made ++ (w.stand.begun + 1) ∷ [] =
    sym are.numbers ∙ ap (send_numbers n) made ∙ send_numbers-append n w.made (entry_of w (Call.Send body)) ∙ ap (λ l. send_numbers n w.made ++ l) it in
    let last = last_counts 1 (send_numbers n w.made) (w.stand.begun + 1) (subst (CountsFrom 1) numbers (s.legal.numbers n)) in
    let many = ap length numbers ∙ length-append (send_numbers n w.made) ((w.stand.begun + 1) ∷ []) in
    let all : length (send_numbers n (history x).sends.calls) ≡ count = are.count ∙ ap sends_in (ap (map (λ (z : Told). z.0)) (sym calls) ∙ s.calls_are) ∙ sym begun.made in
    omega (arith, last, many, all)
