-- The law of posted stores: each move keeps the tie to the run of atomic steps. A thread does there the stores that wait when it looks,
-- or, if it hasn't looked, when they leave its buffer; a load that waits has no turn.
use Rattle.std.proofs.Common.{◌≡◌, ℕ, length, Bool, true, false, cond, ◌==◌, refl, ap, sym, ◌∙◌, subst, List, [], ◌∷◌, ◌++◌, append_assoc, append-nil, None}
use Rattle.std.proofs.lemmas.Bool.{eqb-true, eqb-false}
use Rattle.cc_x86.specs.Program.{Operation, Load, Store, Locked, Outside, Stop, Program, State, Effect, Turn, hold, put, found, written}
use Rattle.cc_x86.specs.Sequential as sequential
use Rattle.cc_x86.specs.Sequential.{stepped_by, reached, effects}
use Rattle.cc_x86.specs.Buffered.{Plain, is_plain, Waiting, Machine, Move, Acts, Drains, seen, found_behind, acted_by, drained_by, arrived, acts_with, drains_with, shown, MayAct, MayDrain, IsBufferedRun}
use Rattle.cc_x86.specs.Posted.{Waits, AreWaiting, IsLook, IsWrite, Opens, Looks, Writes, Settles, has, Alone, AloneAt, IsOrderly, Order, doing, looks_in, acts_in, but_first, drains_in, order, outsides, IsFromStore, IsAlike, PostedStoresAreNotSeen}
use Rattle.cc_x86.proofs.Buffers.{at_hold, Behind, one_more, may_be}
use Rattle.cc_x86.proofs.Stores.{first_false, second_false, by_bool, has_front, unseen, front_none, at_hold', longer, held}
use Rattle.cc_x86.proofs.Tied.{HoldsBefore, Tied, Committed, one_turn, words_at, commit, holds_before, apart}

module _ {W S : Type 0} (c : Program W S) (plain : Plain S) (waits : Waits S) (s : State W S) where
  pub record After (m : Machine W S) (o : Order W) (es : List (Effect W)) : Type 0 where
    pub U : ℕ → List (Waiting W)
    pub tied : Tied c plain waits s m o.turns U o.late es None

  module _ (are_waiting : AreWaiting c waits) (Holds : List Turn → Type 0) (before : HoldsBefore Holds) (orderly : IsOrderly c plain waits s Holds) (m : Machine W S) (ts : List Turn) (U B : ℕ → List (Waiting W)) (es : List (Effect W)) (k : Tied c plain waits s m ts U B es None) where
    abbrev now : Order W
    now = record { turns = ts; late = B }

    -- what buffers are after a move that leaves them
    abbrev same_buffer : ℕ → ℕ → List (Waiting W)
    same_buffer p = hold m.buffer p (m.buffer p)

    left : (V C : ℕ → List (Waiting W)) → ((q : ℕ) → m.buffer q ≡ V q ++ C q) → (p q : ℕ) → same_buffer p q ≡ V q ++ C q
    left V C split p q = at_hold (λ (z : Bool). cond z (m.buffer p) (m.buffer q) ≡ V q ++ C q) p q (λ same. ap m.buffer same ∙ split q) (split q)

    -- a load that waits has no turn
    waited : (p x : ℕ) → waits p (m.own p) x ≡ true →
        Tied c plain waits s record { words = m.words; own = hold m.own p (c.after p (m.own p) x); buffer = same_buffer p } ts U B es None
    waited p x it_waits = record {
      run = k.run;
      outside = k.outside;
      leads = k.leads;
      split = left U B k.split p;
      behind = λ q. at_hold (λ (z : Bool). Behind c plain q ((reached c s ts).own q) (B q) (cond z (c.after p (m.own p) x) (m.own q))) p q
          (λ same. subst (λ (y : S). Behind c plain q ((reached c s ts).own q) (B q) y) (ap m.own (sym same) ∙ sym (are_waiting p (m.own p) x it_waits)) (k.behind q))
          (k.behind q);
      owner = k.owner;
    }

    -- a look: first its thread does the stores that it is behind by
    abbrev first_done : ℕ → List Turn
    first_done p = doing p (B p) ts

    looked : (p told : ℕ) (does : Operation W) (x : ℕ) (es' : List (Effect W)) → (done : Committed c plain waits s Holds before orderly m es (first_done p) B p) →
        c.next p ((reached c s (first_done p)).own p) ≡ does → sequential.Acts does → ((ws : W → ℕ) → written c.same ws does ≡ ws) →
        found (reached c s (first_done p)).words does told ≡ x → IsLook c.same waits p ((reached c s (first_done p)).own p) (reached c s (first_done p)).words (done.U p) m.words does →
        ((before : List (Effect W)) → outsides before ≡ outsides es → outsides (record { thread = p; does = does; found = x } ∷ before) ≡ outsides es') →
        After record { words = m.words; own = hold m.own p (c.after p (m.own p) x); buffer = same_buffer p } (looks_in now record { thread = p; told = told }) es'
    looked p told does x es' done is acts writes_nothing finds is_look shows =
        let r : State W S = reached c s (first_done p) in
        let none : hold B p [] p ≡ [] = held B p [] in
        let at : r.own p ≡ m.own p = subst (λ (l : List (Waiting W)). Behind c plain p (r.own p) l (m.own p)) none (done.tied.behind p) in
        let goes : c.after p (r.own p) (found r.words does told) ≡ c.after p (m.own p) x = ap (λ (z : S). c.after p z (found r.words does told)) at ∙ ap (λ (y : ℕ). c.after p (m.own p) y) finds in record {
          U = done.U;
          tied =
              one_turn c plain waits s _ (first_done p) done.U (hold B p []) es' None p told does done.tied.run is acts
              (ap (λ (y : ℕ). outsides (record { thread = p; does = does; found = y } ∷ effects c s (first_done p))) finds ∙ shows (effects c s (first_done p)) done.tied.outside)
              (Looks p told does done.tied.leads done.its is is_look)
              (left done.U (hold B p []) done.tied.split p)
              (λ q. at_hold (λ (z : Bool). Behind c plain q (cond z (c.after p (r.own p) (found r.words does told)) (r.own q)) (hold B p [] q) (cond z (c.after p (m.own p) x) (m.own q))) p q
              (λ same. subst (λ (z : ℕ). Behind c plain z (c.after p (r.own p) (found r.words does told)) (hold B p [] z) (c.after p (m.own p) x)) same
              (subst (λ (l : List (Waiting W)). Behind c plain p (c.after p (r.own p) (found r.words does told)) l (c.after p (m.own p) x)) (sym none) goes))
              (done.tied.behind q))
              (λ y. ((done.tied.owner y).0, (done.tied.owner y).1, ap (λ (ws : W → ℕ). ws y) (writes_nothing r.words) ∙ (done.tied.owner y).2));
        }

    -- the thread is then where it is with buffers, and what it sees of its own is what it has posted
    arrives : (p : ℕ) → (done : Committed c plain waits s Holds before orderly m es (first_done p) B p) → (reached c s (first_done p)).own p ≡ m.own p
    arrives p done = subst (λ (l : List (Waiting W)). Behind c plain p ((reached c s (first_done p)).own p) l (m.own p)) (held B p []) (done.tied.behind p)

    all_posted : (p : ℕ) → (done : Committed c plain waits s Holds before orderly m es (first_done p) B p) → m.buffer p ≡ done.U p
    all_posted p done = done.tied.split p ∙ ap (λ (l : List (Waiting W)). done.U p ++ l) (held B p []) ∙ append-nil (done.U p)

    abbrev sees : ℕ → W → ℕ
    sees p w = seen c.same (m.buffer p) w (m.words w)

    abbrev loaded : ℕ → W → Machine W S
    loaded p w = record { words = m.words; own = hold m.own p (c.after p (m.own p) (sees p w)); buffer = same_buffer p }

    load_waits : (p : ℕ) (w : W) → waits p (m.own p) (sees p w) ≡ true → After (loaded p w) now (record { thread = p; does = Load w; found = sees p w } ∷ es)
    load_waits p w it_waits =
        let j : Tied c plain waits s (loaded p w) ts U B es None = waited p (sees p w) it_waits in record {
          U = U;
          tied = record { run = j.run; outside = j.outside; leads = j.leads; split = j.split; behind = j.behind; owner = j.owner };
        }

    load_looks : (p told : ℕ) (w : W) → c.next p (m.own p) ≡ Load w → waits p (m.own p) (sees p w) ≡ false → Holds (first_done p)
        → After (loaded p w) (looks_in now record { thread = p; told = told }) (record { thread = p; does = Load w; found = sees p w } ∷ es)
    load_looks p told w is it_looks holds =
        let done : Committed c plain waits s Holds before orderly m es (first_done p) B p = commit c plain waits s Holds before orderly m es (B p) ts U B None k p tt refl holds in
        let looks : waits p ((reached c s (first_done p)).own p) (seen c.same (done.U p) w (m.words w)) ≡ false =
        ap (λ (own : S). waits p own (seen c.same (done.U p) w (m.words w))) (arrives p done)
        ∙ ap (λ (l : List (Waiting W)). waits p (m.own p) (seen c.same l w (m.words w))) (sym (all_posted p done)) ∙ it_looks in
        let is_there : c.next p ((reached c s (first_done p)).own p) ≡ Load w = ap (c.next p) (arrives p done) ∙ is in
        let alone : Alone c.same done.U p w = apart c plain waits s Holds before orderly m es (first_done p) done.U (hold B p []) done.busy done.tied holds p done.its (Load w) is_there looks in
        let finds : (reached c s (first_done p)).words w ≡ seen c.same (done.U p) w (m.words w) = words_at c plain waits s m (first_done p) done.U (hold B p []) es done.busy done.tied p w alone in
        looked p told (Load w) (sees p w) (record { thread = p; does = Load w; found = sees p w } ∷ es) done is_there tt (λ ws. refl)
        (finds ∙ ap (λ (l : List (Waiting W)). seen c.same l w (m.words w)) (sym (all_posted p done)))
        (looks, finds) (λ before shows. shows)

    load_by : (p told : ℕ) (w : W) (b : Bool) → waits p (m.own p) (sees p w) ≡ b → c.next p (m.own p) ≡ Load w → Holds (acts_in now record { thread = p; told = told } (Load w) true b).turns
        → After (loaded p w) (acts_in now record { thread = p; told = told } (Load w) true b) (record { thread = p; does = Load w; found = sees p w } ∷ es)
    load_by p told w true it is holds = load_waits p w it
    load_by p told w false it is holds = load_looks p told w is it (before record { thread = p; told = told } (first_done p) holds)

    returns : (p told v : ℕ) → c.next p (m.own p) ≡ Outside v → Holds (first_done p) →
        After record { words = m.words; own = hold m.own p (c.after p (m.own p) told); buffer = same_buffer p } (looks_in now record { thread = p; told = told }) (record { thread = p; does = Outside v; found = told } ∷ es)
    returns p told v is holds =
        let done : Committed c plain waits s Holds before orderly m es (first_done p) B p = commit c plain waits s Holds before orderly m es (B p) ts U B None k p tt refl holds in
        looked p told (Outside v) told (record { thread = p; does = Outside v; found = told } ∷ es) done (ap (c.next p) (arrives p done) ∙ is) tt (λ ws. refl) refl tt
        (λ before shows. ap (λ (l : List (Effect W)). record { thread = p; does = Outside v; found = told } ∷ l) shows)

    -- a plain store waits
    stores : (p : ℕ) (w : W) (v : ℕ) → c.next p (m.own p) ≡ Store w v → plain p (m.own p) ≡ true →
        After record { words = m.words; own = hold m.own p (c.after p (m.own p) 0); buffer = hold m.buffer p (m.buffer p ++ record { word = w; value = v } ∷ []) }
        record { turns = ts; late = hold B p (B p ++ record { word = w; value = v } ∷ []) } es
    stores p w v is its_plain =
        let e : Waiting W = record { word = w; value = v } in record {
          U = U;
          tied = record {
            run = k.run;
            outside = k.outside;
            leads = k.leads;
            split = λ q. at_hold (λ (z : Bool). cond z (m.buffer p ++ e ∷ []) (m.buffer q) ≡ U q ++ cond z (B p ++ e ∷ []) (B q)) p q
                (λ same. subst (λ (z : ℕ). m.buffer p ++ e ∷ [] ≡ U z ++ (B p ++ e ∷ [])) same (ap (λ (l : List (Waiting W)). l ++ e ∷ []) (k.split p) ∙ append_assoc (U p) (B p) (e ∷ [])))
                (k.split q);
            behind = λ q. at_hold (λ (z : Bool). Behind c plain q ((reached c s ts).own q) (cond z (B p ++ e ∷ []) (B q)) (cond z (c.after p (m.own p) 0) (m.own q))) p q
                (λ same. subst (λ (z : ℕ). Behind c plain z ((reached c s ts).own z) (B p ++ e ∷ []) (c.after p (m.own p) 0)) same (one_more c plain p ((reached c s ts).own p) (B p) (m.own p) w v (k.behind p) is its_plain))
                (k.behind q);
            owner = k.owner;
          };
        }

    -- a write that all get at once
    wrote : (p told : ℕ) (does : Operation W) (w : W) (v : ℕ) (own' : ℕ → S) (buffer' C : ℕ → List (Waiting W)) (es' : List (Effect W)) →
        c.next p ((reached c s ts).own p) ≡ does → IsWrite does → sequential.Acts does → U p ≡ [] → AloneAt c.same U p w →
        ((x : W) → written c.same (reached c s ts).words does x ≡ cond (c.same w x) v ((reached c s ts).words x)) →
        ((x : W) → written c.same m.words does x ≡ cond (c.same w x) v (m.words x)) →
        outsides (record { thread = p; does = does; found = found (reached c s ts).words does told } ∷ effects c s ts) ≡ outsides es' →
        ((q : ℕ) → buffer' q ≡ U q ++ C q) →
        ((q : ℕ) → Behind c plain q ((stepped_by c (reached c s ts) p told does).own q) (C q) (own' q)) →
        Tied c plain waits s record { words = written c.same m.words does; own = own'; buffer = buffer' } (record { thread = p; told = told } ∷ ts) U C es' None
    wrote p told does w v own' buffer' C es' is write acts none alone here_so there_so shows split behind =
        one_turn c plain waits s record { words = written c.same m.words does; own = own'; buffer = buffer' } ts U C es' None p told does k.run is acts shows (Writes p told does k.leads is write none) split behind
        (λ x. by_bool ((q : ℕ) × Alone c.same U q x × (written c.same (reached c s ts).words does x ≡ seen c.same (U q) x (written c.same m.words does x))) (c.same w x)
        (λ here. (
          p,
          alone x here,
          here_so x ∙ ap (λ (z : Bool). cond z v ((reached c s ts).words x)) here ∙ sym (ap (λ (l : List (Waiting W)). seen c.same l x (written c.same m.words does x)) none ∙ there_so x ∙ ap (λ (z : Bool). cond z v (m.words x)) here),
        ))
        (λ there. (
          (k.owner x).0,
          (k.owner x).1,
          here_so x ∙ ap (λ (z : Bool). cond z v ((reached c s ts).words x)) there ∙ (k.owner x).2
              ∙ ap (λ (y : ℕ). seen c.same (U (k.owner x).0) x y) (sym (there_so x ∙ ap (λ (z : Bool). cond z v (m.words x)) there)),
        )))

    both_empty : (p : ℕ) → m.buffer p ≡ [] → (U p ≡ []) × (B p ≡ [])
    both_empty p empty = front_none (U p) (B p) (sym (k.split p) ∙ empty)

    at_own : (p : ℕ) → m.buffer p ≡ [] → (reached c s ts).own p ≡ m.own p
    at_own p empty = subst (λ (l : List (Waiting W)). Behind c plain p ((reached c s ts).own p) l (m.own p)) (both_empty p empty).1 (k.behind p)

    writes : (p told : ℕ) (does : Operation W) (w : W) (v x : ℕ) → c.next p (m.own p) ≡ does → IsWrite does → sequential.Acts does → m.buffer p ≡ [] →
        AloneAt c.same U p w →
        ((y : W) → written c.same (reached c s ts).words does y ≡ cond (c.same w y) v ((reached c s ts).words y)) →
        ((y : W) → written c.same m.words does y ≡ cond (c.same w y) v (m.words y)) →
        found (reached c s ts).words does told ≡ x →
        ((before : List (Effect W)) (y : ℕ) → outsides (record { thread = p; does = does; found = y } ∷ before) ≡ outsides before) →
        After record { words = written c.same m.words does; own = hold m.own p (c.after p (m.own p) x); buffer = same_buffer p }
        record { turns = record { thread = p; told = told } ∷ ts; late = B } (record { thread = p; does = does; found = x } ∷ es)
    writes p told does w v x is write acts empty alone here_so there_so finds shows =
        let r : State W S = reached c s ts in
        let goes : c.after p (r.own p) (found r.words does told) ≡ c.after p (m.own p) x = ap (λ (z : S). c.after p z (found r.words does told)) (at_own p empty) ∙ ap (λ (y : ℕ). c.after p (m.own p) y) finds in record {
          U = U;
          tied = wrote p told does w v (hold m.own p (c.after p (m.own p) x)) (same_buffer p) B (record { thread = p; does = does; found = x } ∷ es)
              (ap (c.next p) (at_own p empty) ∙ is) write acts (both_empty p empty).0 alone here_so there_so
              (shows (effects c s ts) (found r.words does told) ∙ k.outside ∙ sym (shows es x))
              (left U B k.split p)
              (λ q. at_hold (λ (z : Bool). Behind c plain q (cond z (c.after p (r.own p) (found r.words does told)) (r.own q)) (B q) (cond z (c.after p (m.own p) x) (m.own q))) p q
              (λ same. subst (λ (z : ℕ). Behind c plain z (c.after p (r.own p) (found r.words does told)) (B z) (c.after p (m.own p) x)) same
              (subst (λ (l : List (Waiting W)). Behind c plain p (c.after p (r.own p) (found r.words does told)) l (c.after p (m.own p) x)) (sym (both_empty p empty).1) goes))
              (k.behind q));
        }

    acts_keeps : (p told : ℕ) (does : Operation W) (f : Bool) → (f ≡ true → plain p (m.own p) ≡ true) → c.next p (m.own p) ≡ does → MayAct (m.buffer p) does f →
        Holds (acts_in now record { thread = p; told = told } does f (waits p (m.own p) (found_behind c.same m.words (m.buffer p) does told))).turns →
        After (acted_by c m p told does f) (acts_in now record { thread = p; told = told } does f (waits p (m.own p) (found_behind c.same m.words (m.buffer p) does told)))
        (acts_with p (found_behind c.same m.words (m.buffer p) does told) does f ++ es)
    acts_keeps p told (Load w) f may_be is may holds = load_by p told w (waits p (m.own p) (sees p w)) refl is holds
    acts_keeps p told (Store w v) true may_be is may holds = stores p w v is (may_be refl)
    acts_keeps p told (Store w v) false may_be is may holds =
        writes p told (Store w v) w v 0 is tt tt may (apart c plain waits s Holds before orderly m es ts U B None k (before record { thread = p; told = told } ts holds) p tt (Store w v) (ap (c.next p) (at_own p may) ∙ is)) (λ y. refl) (λ y. refl) refl (λ before y. refl)
    acts_keeps p told (Locked w g) f may_be is may holds =
        let both : Alone c.same U p w × AloneAt c.same U p w = apart c plain waits s Holds before orderly m es ts U B None k (before record { thread = p; told = told } ts holds) p tt (Locked w g) (ap (c.next p) (at_own p may) ∙ is) in
        let same_word : (reached c s ts).words w ≡ m.words w = words_at c plain waits s m ts U B es None k p w both.0 ∙ ap (λ (l : List (Waiting W)). seen c.same l w (m.words w)) (both_empty p may).0 in
        writes p told (Locked w g) w (g (m.words w)) (m.words w) is tt tt may both.1
        (λ y. ap (λ (z : ℕ). cond (c.same w y) (g z) ((reached c s ts).words y)) same_word) (λ y. refl) same_word (λ before y. refl)
    acts_keeps p told (Outside v) f may_be is may holds = returns p told v is (before record { thread = p; told = told } (first_done p) holds)
    acts_keeps p told Stop f may_be is may holds = absurd may

    -- the oldest store that waits reaches the words: it was posted, or it is done now
    first : {X : Type 0} → X → List X → X
    first z [] = z
    first z (x ∷ xs) = x

    settles : (p : ℕ) (e : Waiting W) (newer older : List (Waiting W)) → U p ≡ e ∷ older → older ++ B p ≡ newer → After (drained_by c m p (e ∷ newer)) now (drains_with p (e ∷ newer) ++ es)
    settles p e newer older is splits = record {
      U = hold U p older;
      tied = record {
        run = k.run;
        outside = k.outside;
        leads = Settles p e older k.leads is;
        split = λ q. at_hold (λ (z : Bool). cond z newer (m.buffer q) ≡ cond z older (U q) ++ B q) p q
            (λ same. subst (λ (z : ℕ). newer ≡ older ++ B z) same (sym splits)) (k.split q);
        behind = k.behind;
        owner = λ x. (
          (k.owner x).0,
          λ q not. at_hold' (λ (z : Bool). has c.same (cond z older (U q)) x ≡ false) p q
              (λ same. second_false (c.same e.word x) (has c.same older x)
              (subst (λ (l : List (Waiting W)). has c.same l x ≡ false) is ((k.owner x).1 p (λ f. not (sym same ∙ f)))))
              (λ _. (k.owner x).1 q not),
          (k.owner x).2 ∙ at_hold' (λ (z : Bool). seen c.same (U (k.owner x).0) x (m.words x) ≡ seen c.same (cond z older (U (k.owner x).0)) x (put c.same m.words e.word e.value x)) p (k.owner x).0
              (λ same. ap (λ (z : ℕ). seen c.same (U z) x (m.words x)) (sym same) ∙ ap (λ (l : List (Waiting W)). seen c.same l x (m.words x)) is)
              (λ other. ap (λ (b : Bool). seen c.same (U (k.owner x).0) x (cond b e.value (m.words x)))
              (sym (first_false (c.same e.word x) (has c.same older x) (subst (λ (l : List (Waiting W)). has c.same l x ≡ false) is ((k.owner x).1 p (λ f. other (sym f))))))),
        );
      };
    }

    done_now : (p : ℕ) (e : Waiting W) (newer : List (Waiting W)) → U p ≡ [] → B p ≡ e ∷ newer → Holds ts
        → After (drained_by c m p (e ∷ newer)) record { turns = record { thread = p; told = 0 } ∷ ts; late = hold B p newer } (drains_with p (e ∷ newer) ++ es)
    done_now p e newer none is holds =
        let r : State W S = reached c s ts in
        let b : (c.next p (r.own p) ≡ Store e.word e.value) × (plain p (r.own p) ≡ true) × Behind c plain p (c.after p (r.own p) 0) newer (m.own p) =
        subst (λ (l : List (Waiting W)). Behind c plain p (r.own p) l (m.own p)) is (k.behind p) in record {
          U = U;
          tied = wrote p 0 (Store e.word e.value) e.word e.value m.own (hold m.buffer p newer) (hold B p newer) (drains_with p (e ∷ newer) ++ es)
              b.0 tt tt none (apart c plain waits s Holds before orderly m es ts U B None k holds p tt (Store e.word e.value) b.0) (λ y. refl) (λ y. refl) k.outside
              (λ q. at_hold (λ (z : Bool). cond z newer (m.buffer q) ≡ U q ++ cond z newer (B q)) p q
              (λ same. subst (λ (z : ℕ). newer ≡ U z ++ newer) same (ap (λ (l : List (Waiting W)). l ++ newer) (sym none))) (k.split q))
              (λ q. at_hold (λ (z : Bool). Behind c plain q (cond z (c.after p (r.own p) 0) (r.own q)) (cond z newer (B q)) (m.own q)) p q
              (λ same. subst (λ (z : ℕ). Behind c plain z (c.after p (r.own p) 0) newer (m.own z)) same b.2)
              (k.behind q));
        }

    -- all are late, or the oldest isn't
    drains_by : (p : ℕ) (e : Waiting W) (newer posted : List (Waiting W)) (b : Bool) → U p ≡ posted → posted ++ B p ≡ e ∷ newer → (length (e ∷ newer) == length (B p)) ≡ b →
        Holds (cond b (record { turns = record { thread = p; told = 0 } ∷ ts; late = hold B p (but_first (B p)) }) now).turns →
        After (drained_by c m p (e ∷ newer)) (cond b (record { turns = record { thread = p; told = 0 } ∷ ts; late = hold B p (but_first (B p)) }) now) (drains_with p (e ∷ newer) ++ es)
    unfolding first
    drains_by p e newer [] true is splits all holds =
        subst (λ (l : List (Waiting W)). After (drained_by c m p (e ∷ newer)) record { turns = record { thread = p; told = 0 } ∷ ts; late = hold B p l } (drains_with p (e ∷ newer) ++ es)) (sym (ap but_first splits))
        (done_now p e newer is splits (before record { thread = p; told = 0 } ts holds))
    drains_by p e newer [] false is splits all holds = absurd (eqb-false (length (e ∷ newer)) (length (B p)) all (ap length (sym splits)))
    drains_by p e newer (d ∷ older) false is splits all holds = settles p e newer older (is ∙ ap (λ (z : Waiting W). z ∷ older) (ap (first d) splits)) (ap but_first splits)
    drains_by p e newer (d ∷ older) true is splits all holds =
        absurd (longer older (B p) (sym (eqb-true (length (e ∷ newer)) (length (B p)) all) ∙ ap length (sym splits)))

    drains_keep : (p : ℕ) (waiting : List (Waiting W)) → m.buffer p ≡ waiting → MayDrain waiting → Holds (drains_in now p waiting).turns → After (drained_by c m p waiting) (drains_in now p waiting) (drains_with p waiting ++ es)
    drains_keep p [] is may holds = absurd may
    drains_keep p (e ∷ newer) is may holds = drains_by p e newer (U p) (length (e ∷ newer) == length (B p)) refl (sym (k.split p) ∙ is) refl holds

    at_late : (p : ℕ) → B p ≡ [] → (reached c s ts).own p ≡ m.own p
    at_late p none = subst (λ (l : List (Waiting W)). Behind c plain p ((reached c s ts).own p) l (m.own p)) none (k.behind p)

    from_store : (p : ℕ) (own : S) (waiting : List (Waiting W)) (to : S) → Behind c plain p own waiting to → (IsFromStore c p to → ⊥) → waiting ≡ []
    from_store p own [] to b not = refl
    from_store p own (e ∷ []) to b not = absurd (not (own, e.word, e.value, b.0, b.2))
    from_store p own (e ∷ d ∷ newer) to b not = absurd (cc_cons (from_store p (c.after p own 0) (d ∷ newer) to b.2 not))
      where
        cc_cons : d ∷ newer ≡ [] → ⊥
        cc_cons e = cc

    -- a word for which no store waits
    words_so : (w : W) → ((p : ℕ) → has c.same (m.buffer p) w ≡ false) → (reached c s ts).words w ≡ m.words w
    words_so w none =
        let not_posted : (q : ℕ) → has c.same (U q) w ≡ false = λ q. has_front c.same (U q) (B q) w (subst (λ (l : List (Waiting W)). has c.same l w ≡ false) (k.split q) (none q)) in
        words_at c plain waits s m ts U B es None k 0 w (λ q _. not_posted q) ∙ unseen c.same (U 0) w (m.words w) (not_posted 0)

  opens : Tied c plain waits s (arrived c plain s []) [] (λ p. []) (λ p. []) [] None
  opens = record { run = tt; outside = refl; leads = Opens; split = λ q. refl; behind = λ q. refl; owner = λ x. (0, λ q _. refl, refl) }

  module _ (are_waiting : AreWaiting c waits) (Holds : List Turn → Type 0) (before : HoldsBefore Holds) (orderly : IsOrderly c plain waits s Holds) where
    -- what holds of the turns holds of those before the newest move
    acted_before : (o : Order W) (t : Turn) (does : Operation W) (f b : Bool) → Holds (acts_in o t does f b).turns → Holds o.turns
    acted_before o t (Load w) f true holds = holds
    acted_before o t (Load w) f false holds = holds_before c plain waits s Holds before t.thread (o.late t.thread) o.turns (before t (doing t.thread (o.late t.thread) o.turns) holds)
    acted_before o t (Outside v) f b holds = holds_before c plain waits s Holds before t.thread (o.late t.thread) o.turns (before t (doing t.thread (o.late t.thread) o.turns) holds)
    acted_before o t (Store w v) true b holds = holds
    acted_before o t _ _ b holds = before t o.turns holds

    drained_before : (o : Order W) (p : ℕ) (l : List (Waiting W)) (b : Bool) → Holds (cond b (record { turns = record { thread = p; told = 0 } ∷ o.turns; late = hold o.late p l }) o).turns → Holds o.turns
    drained_before o p l true holds = before record { thread = p; told = 0 } o.turns holds
    drained_before o p l false holds = holds

    pub follow : (moves : List Move) → IsBufferedRun c plain s moves → Holds (order c plain waits s moves).turns → After (arrived c plain s moves) (order c plain waits s moves) (shown c plain s moves)
    follow [] run holds = record { U = λ p. []; tied = opens }
    follow (Acts t plainly ∷ earlier) run holds =
        let m : Machine W S = arrived c plain s earlier in
        let o : Order W = order c plain waits s earlier in
        let own : S = m.own t.thread in
        let does : Operation W = c.next t.thread own in
        let f : After m o (shown c plain s earlier) = follow earlier run.0 (acted_before o t does (is_plain plain t.thread own plainly) (waits t.thread own (found_behind c.same m.words (m.buffer t.thread) does t.told)) holds) in
        acts_keeps are_waiting Holds before orderly m o.turns f.U o.late (shown c plain s earlier) f.tied t.thread t.told does (is_plain plain t.thread own plainly) (may_be c plain t.thread own plainly) refl run.1 holds
    follow (Drains p ∷ earlier) run holds =
        let m : Machine W S = arrived c plain s earlier in
        let o : Order W = order c plain waits s earlier in
        let f : After m o (shown c plain s earlier) = follow earlier run.0 (drained_before o p (but_first (o.late p)) (length (m.buffer p) == length (o.late p)) holds) in
        drains_keep are_waiting Holds before orderly m o.turns f.U o.late (shown c plain s earlier) f.tied p (m.buffer p) refl run.1 holds

pub alike_if : (W S : Type 0) (c : Program W S) (plain : Plain S) (waits : Waits S) (s : State W S) (Holds : List Turn → Type 0)
    → (moves : List Move) → AreWaiting c waits → HoldsBefore Holds → IsOrderly c plain waits s Holds → IsBufferedRun c plain s moves
    → Holds (order c plain waits s moves).turns → IsAlike c plain waits s moves
alike_if W S c plain waits s Holds moves are_waiting before orderly run holds =
    let f = follow c plain waits s are_waiting Holds before orderly moves run holds in
    let o : Order W = order c plain waits s moves in record {
      run = f.tied.run;
      outside = f.tied.outside;
      own = at_late c plain waits s are_waiting Holds before orderly (arrived c plain s moves) o.turns f.U o.late (shown c plain s moves) f.tied;
      done = λ p not. from_store c plain waits s are_waiting Holds before orderly (arrived c plain s moves) o.turns f.U o.late (shown c plain s moves) f.tied p
          ((reached c s o.turns).own p) (o.late p) ((arrived c plain s moves).own p) (f.tied.behind p) not;
      empty = λ p none. (both_empty c plain waits s are_waiting Holds before orderly (arrived c plain s moves) o.turns f.U o.late (shown c plain s moves) f.tied p none).1;
      words = words_so c plain waits s are_waiting Holds before orderly (arrived c plain s moves) o.turns f.U o.late (shown c plain s moves) f.tied;
    }

pub posted_stores_are_not_seen : (W S : Type 0) → PostedStoresAreNotSeen W S
posted_stores_are_not_seen W S c plain waits s moves are_waiting orderly run =
    alike_if W S c plain waits s (λ ts. Unit {0}) moves are_waiting (λ t ts holds. tt) orderly run tt

-- ---- fronts

doing_adds : {W : Type 0} (p : ℕ) (waiting : List (Waiting W)) (ts : List Turn) → (now : List Turn) × (doing p waiting ts ≡ now ++ ts)
doing_adds p [] ts = ([], refl)
doing_adds p (e ∷ newer) ts =
    let t : Turn = record { thread = p; told = 0 } in
    let rest = doing_adds p newer (t ∷ ts) in (rest.0 ++ t ∷ [], rest.1 ∙ sym (append_assoc rest.0 (t ∷ []) ts))

look_adds : {W : Type 0} (o : Order W) (t : Turn) → (now : List Turn) × ((looks_in o t).turns ≡ now ++ o.turns)
look_adds o t = let rest = doing_adds t.thread (o.late t.thread) o.turns in (t ∷ rest.0, ap (λ (l : List Turn). t ∷ l) rest.1)

acts_add : {W : Type 0} (o : Order W) (t : Turn) (does : Operation W) (flag it_waits : Bool) → (now : List Turn) × ((acts_in o t does flag it_waits).turns ≡ now ++ o.turns)
acts_add o t (Load w) flag true = ([], refl)
acts_add o t (Load w) flag false = look_adds o t
acts_add o t (Outside v) flag it_waits = look_adds o t
acts_add o t (Store w v) true it_waits = ([], refl)
acts_add o t _ _ it_waits = (t ∷ [], refl)

drain_adds : {W : Type 0} (o : Order W) (p : ℕ) (l : List (Waiting W)) (b : Bool)
    → (now : List Turn) × ((cond b (record { turns = record { thread = p; told = 0 } ∷ o.turns; late = hold o.late p l }) o).turns ≡ now ++ o.turns)
drain_adds o p l true = (record { thread = p; told = 0 } ∷ [], refl)
drain_adds o p l false = ([], refl)

pub order_adds : {W S : Type 0} (c : Program W S) (plain : Plain S) (waits : Waits S) (s : State W S) (later front : List Move)
    → (now : List Turn) × ((order c plain waits s (later ++ front)).turns ≡ now ++ (order c plain waits s front).turns)
order_adds c plain waits s [] front = ([], refl)
order_adds {W} {S} c plain waits s (Acts t plainly ∷ later) front =
    let m : Machine W S = arrived c plain s (later ++ front) in
    let own : S = m.own t.thread in
    let does : Operation W = c.next t.thread own in
    let rest = order_adds c plain waits s later front in
    let one = acts_add (order c plain waits s (later ++ front)) t does (is_plain plain t.thread own plainly) (waits t.thread own (found_behind c.same m.words (m.buffer t.thread) does t.told)) in
    (one.0 ++ rest.0, one.1 ∙ ap (λ (l : List Turn). one.0 ++ l) rest.1 ∙ sym (append_assoc one.0 rest.0 (order c plain waits s front).turns))
order_adds {W} {S} c plain waits s (Drains p ∷ later) front =
    let o : Order W = order c plain waits s (later ++ front) in
    let rest = order_adds c plain waits s later front in
    let one = drain_adds o p (but_first (o.late p)) (length ((arrived c plain s (later ++ front)).buffer p) == length (o.late p)) in
    (one.0 ++ rest.0, one.1 ∙ ap (λ (l : List Turn). one.0 ++ l) rest.1 ∙ sym (append_assoc one.0 rest.0 (order c plain waits s front).turns))
