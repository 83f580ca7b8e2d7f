-- The history gets a call more, or an answer.
use Rattle.std.proofs.Common.{◌≡◌, ◌≢◌, ℕ, ◌+◌, ◌<◌, ◌≤◌, List, [], ◌∷◌, ◌++◌, length, refl, ap, sym, ◌∙◌, subst, arith, inl, inr}
use Rattle.std.proofs.lemmas.Bool.{cases_eq}
use Rattle.std.proofs.lemmas.List.{length_push, get_or_push, get_or_append_left}
use Rattle.cc_runs.specs.Names.{Entry, Answer, Setting, Chain, Stand}
use Rattle.cc_runs.specs.Run.{IsFinished}
use Rattle.cc_runs.proofs.Changed.{changed, changed_here, changed_away, get_or_away}
use Rattle.cc_runs.proofs.Combining.CallSteps.{Extends}
use Rattle.cc_runs.proofs.Combining.CombinerSteps.{Answers}
use Rattle.cc_runs.proofs.Chains.View.{members, post_at, asked_words, answer_long, request_long}
use Rattle.cc_runs.proofs.Chains.Registers.{call_at, answer_at, no_call, no_answer, IsCall, HasCall, IsAnswer, HasService, coded_words, HasRead}
use Rattle.cc_runs.proofs.Chains.Ties.{Kept, Ties, ghosts, service_call, reader_answer}

call_new : (calls : List Entry) (e : Entry) (n : ℕ) → length calls ≡ n → call_at (calls ++ e ∷ []) n ≡ e
call_new calls e n long = get_or_push calls e no_call n long

call_old : (calls : List Entry) (e : Entry) (n k : ℕ) → length calls ≡ n → k < n → call_at (calls ++ e ∷ []) k ≡ call_at calls k
call_old calls e n k long less = get_or_append_left calls (e ∷ []) no_call k (omega arith)

answer_new : (answers : List Answer) (a : Answer) (n : ℕ) → length answers ≡ n → answer_at (answers ++ a ∷ []) n ≡ a
answer_new answers a n long = get_or_push answers a no_answer n long

answer_old : (answers : List Answer) (a : Answer) (n k : ℕ) → length answers ≡ n → k < n → answer_at (answers ++ a ∷ []) k ≡ answer_at answers k
answer_old answers a n k long less = get_or_append_left answers (a ∷ []) no_answer k (omega arith)

-- an exchange of pass p, with its node
abbrev pub extended : ℕ → Kept → ℕ → ℕ → Kept
extended n g p own = record g { pass_of = changed g.pass_of n p; chain = changed g.chain (n + 1) own; at = changed g.at p n }

module _ (c : Setting) (x : Chain) (calls : List Entry) (answers : List Answer) (stand stand' : ℕ → Stand) (g : Kept) (p : ℕ) (inside : p < members c x) (ties : Ties c x calls answers stand g) where
  abbrev more_calls : Entry → List Entry
  more_calls e = calls ++ e ∷ []

  pub extends : (e : Entry) (own : ℕ) (asks : ℕ → ℕ) → ((j : ℕ) → asked_words x e j ≡ asks j) → Extends (ghosts c x calls answers g) (ghosts c x (more_calls e) answers (extended (length calls) g p own)) p own asks
  extends e own asks same = record {
    calls = length_push calls e;
    answers = refl;
    marked = refl;
    server = refl;
    pass_now = changed_here _ _ _ _ refl;
    pass_before = λ k l. changed_away _ _ _ _ (omega arith);
    asked_now = λ j. ap (λ (z : Entry). asked_words x z j) (call_new calls e (length calls) refl) ∙ same j;
    asked_before = λ k j l. ap (λ (z : Entry). asked_words x z j) (call_old calls e (length calls) k refl l);
    told = λ k j. refl;
    asks_long = λ k l. ap (request_long x) (call_old calls e (length calls) k refl l);
    told_long = λ k. refl;
    chain_now = changed_here _ _ _ _ refl;
    chain_before = λ k l. changed_away _ _ _ _ (omega arith);
    at_now = changed_here _ _ _ _ refl;
    at_before = λ q ne. changed_away _ _ _ _ ne;
  }

  entered_now : (e : Entry) (own : ℕ) → IsCall c x p e → (k : ℕ) → k < length (more_calls e) → IsCall c x ((extended (length calls) g p own).pass_of k) (call_at (more_calls e) k)
  entered_now e own is k l = grind (arith, length_push calls e, cases_eq k (length calls), changed_here, changed_away, call_new, call_old, ties.entered k)

  -- nobody but p changes, and p has nothing to read yet
  pub ties_entered : (e : Entry) (own : ℕ) (there : Stand) → IsCall c x p e → stand' p ≡ there → ((q : ℕ) → q ≢ p → stand' q ≡ stand q) → g.server ≢ p + 1 → ((q : ℕ) → g.server ≡ q + 1 → q < members c x) →
      g.marked ≤ (length answers) → (length answers) ≤ (length calls) → ((q : ℕ) → q < members c x → IsFinished (stand q).phase → g.at q < (length calls)) →
      ((q : ℕ) → g.server ≡ q + 1 → 1 ≤ (post_at x (stand q)).stage → (post_at x (stand q)).stage ≤ 2 → g.marked < (length calls)) →
      HasCall c x p there.phase → ((a : Answer) → HasRead c.served x a there.phase) → (IsFinished there.phase → ⊥) → Ties c x (more_calls e) answers stand' (extended (length calls) g p own)
  ties_entered e own there is here others not_server server_in order order2 ended_in busy call reads none = record {
    pass_in = λ k l. elim (cases_eq k (length calls)) [
      | inl same ↦ omega (arith, changed_here g.pass_of (length calls) p k same)
      | inr ne ↦ omega (arith, changed_away g.pass_of (length calls) p k ne, ties.pass_in k (omega (arith, l, ne, length_push calls e)))
    ];
    entered = entered_now e own is;
    answered = ties.answered;
    begun = λ q qn. elim (cases_eq q p) [
      | inl same ↦ subst (λ (z : Stand). HasCall c x q z.phase) (sym here ∙ ap stand' (sym same)) (subst (λ (z : ℕ). HasCall c x z there.phase) (sym same) call)
      | inr ne ↦ subst (λ (z : Stand). HasCall c x q z.phase) (sym (others q ne)) (ties.begun q qn)
    ];
    served = λ q a. elim (cases_eq q p) [
      | inl same ↦ absurd (not_server (a ∙ ap (λ (z : ℕ). z + 1) same))
      | inr ne ↦
          subst (λ (z : Stand). HasService c.served x (call_at (more_calls e) g.marked) (answer_at answers g.marked) z.phase) (sym (others q ne))
          (service_call c.served x (stand q).node (call_at calls g.marked) (call_at (more_calls e) g.marked) (answer_at answers g.marked) (stand q).phase
          (λ low high. sym (call_old calls e (length calls) g.marked refl (busy q a low high))) (ties.served q a))
    ];
    read = λ q qn. elim (cases_eq q p) [
      | inl same ↦ subst (λ (z : Stand). HasRead c.served x (answer_at answers ((extended (length calls) g p own).at q)) z.phase) (sym here ∙ ap stand' (sym same)) (reads (answer_at answers ((extended (length calls) g p own).at q)))
      | inr ne ↦
          subst (λ (z : Stand). HasRead c.served x (answer_at answers ((extended (length calls) g p own).at q)) z.phase) (sym (others q ne))
          (subst (λ (z : ℕ). HasRead c.served x (answer_at answers z) (stand q).phase) (sym (changed_away g.at p (length calls) q ne)) (ties.read q qn))
    ];
    ended = λ q qn f. elim (cases_eq q p) [
      | inl same ↦ absurd (none (subst (λ (z : Stand). IsFinished z.phase) (ap stand' same ∙ here) f))
      | inr ne ↦
          let was : IsFinished (stand q).phase = subst (λ (z : Stand). IsFinished z.phase) (others q ne) f in
          let old : (g.at q < g.marked) × (g.pass_of (g.at q) ≡ q) = ties.ended q qn was in
          let same_at : changed g.at p (length calls) q ≡ g.at q = changed_away g.at p (length calls) q ne in
          (omega (arith, same_at, old.0), ap (λ (z : ℕ). changed g.pass_of (length calls) p z) same_at ∙ changed_away g.pass_of (length calls) p (g.at q) (λ last. omega (arith, last, old.0)) ∙ old.1)
    ];
  }

  abbrev more_answers : Answer → List Answer
  more_answers a = answers ++ a ∷ []

  pub answers_more : (a : Answer) → Answers (ghosts c x calls answers g) (ghosts c x calls (more_answers a) g) (coded_words c.served x a)
  answers_more a = record {
    calls = refl;
    answers = length_push answers a;
    marked = refl;
    server = refl;
    told_now = λ j. ap (λ (z : Answer). coded_words c.served x z j) (answer_new answers a (length answers) refl);
    told_before = λ k j ne. ap (λ (z : Answer). coded_words c.served x z j) (get_or_away answers a k no_answer ne);
    pass_of = λ k. refl;
    asked = λ k j. refl;
    asks_long = λ k. refl;
    told_long = λ k ne. ap answer_long (get_or_away answers a k no_answer ne);
    chain = λ k. refl;
    at = λ q. refl;
  }

  pub ties_answered : (a : Answer) (there : Stand) → IsAnswer c.served x a → stand' p ≡ there → ((q : ℕ) → q ≢ p → stand' q ≡ stand q) → g.server ≡ p + 1 → (length answers) ≡ g.marked →
      ((q : ℕ) → q < members c x → (post_at x (stand q)).rank ≡ 6 → g.at q < g.marked) →
      HasCall c x p there.phase → ((a : Answer) → HasRead c.served x a there.phase) → (IsFinished there.phase → ⊥) → HasService c.served x (call_at calls g.marked) a there.phase →
      Ties c x calls (more_answers a) stand' g
  ties_answered a there is here others me even late call reads none serves = record {
    pass_in = ties.pass_in;
    entered = ties.entered;
    answered = λ k l. elim (cases_eq k (length answers)) [
      | inl same ↦ subst (λ (z : Answer). IsAnswer c.served x z) (sym (answer_new answers a k (sym same))) is
      | inr ne ↦ subst (λ (z : Answer). IsAnswer c.served x z) (sym (answer_old answers a (length answers) k refl (omega (arith, l, ne, length_push answers a)))) (ties.answered k (omega (arith, l, ne, length_push answers a)))
    ];
    begun = λ q qn. elim (cases_eq q p) [
      | inl same ↦ subst (λ (z : Stand). HasCall c x q z.phase) (sym here ∙ ap stand' (sym same)) (subst (λ (z : ℕ). HasCall c x z there.phase) (sym same) call)
      | inr ne ↦ subst (λ (z : Stand). HasCall c x q z.phase) (sym (others q ne)) (ties.begun q qn)
    ];
    served = λ q b. elim (cases_eq q p) [
      | inl same ↦
          subst (λ (z : Stand). HasService c.served x (call_at calls g.marked) (answer_at (more_answers a) g.marked) z.phase) (sym here ∙ ap stand' (sym same))
          (subst (λ (z : Answer). HasService c.served x (call_at calls g.marked) z there.phase) (sym (ap (λ (z : ℕ). answer_at (more_answers a) z) (sym even) ∙ answer_new answers a (length answers) refl)) serves)
      | inr ne ↦ absurd (ne (omega (arith, me, b)))
    ];
    read = λ q qn. elim (cases_eq q p) [
      | inl same ↦ subst (λ (z : Stand). HasRead c.served x (answer_at (more_answers a) (g.at q)) z.phase) (sym here ∙ ap stand' (sym same)) (reads (answer_at (more_answers a) (g.at q)))
      | inr ne ↦
          subst (λ (z : Stand). HasRead c.served x (answer_at (more_answers a) (g.at q)) z.phase) (sym (others q ne))
          (reader_answer c.served x (stand q).node (answer_at answers (g.at q)) (answer_at (more_answers a) (g.at q)) (stand q).phase
          (λ six. sym (answer_old answers a (length answers) (g.at q) refl (omega (arith, late q qn six))))
          (λ f. let old = ties.ended q qn f in sym (answer_old answers a (length answers) (g.at q) refl (omega (arith, old.0)))) (ties.read q qn))
    ];
    ended = λ q qn f. elim (cases_eq q p) [
      | inl same ↦ absurd (none (subst (λ (z : Stand). IsFinished z.phase) (ap stand' same ∙ here) f))
      | inr ne ↦ ties.ended q qn (subst (λ (z : Stand). IsFinished z.phase) (others q ne) f)
    ];
  }
