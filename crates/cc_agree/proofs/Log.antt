-- The log of a run, line by line: when its call began and ended, and what it says.
use Rattle.std.proofs.Common.{◌≡◌, ◌≢◌, ◌⊎◌, ℕ, ◌+◌, ◌<◌, ◌≤◌, ◌==◌, Bool, true, false, cond, List, [], ◌∷◌, ◌++◌, length, get_or, Option, Some, None, Ok, inl, inr, refl, sym, ap, ◌∙◌, subst, arith, length-append, append_assoc, slice_set, slice_index_or}
use Rattle.std.proofs.lemmas.Bool.{cases_eq, cases_lt, eq-eqb, ne_eqb}
use Rattle.std.proofs.lemmas.Option.{slice_get-get_or, get_or_from_slice_get}
use Rattle.std.proofs.lemmas.List.{length-map, length-set}
use Rattle.std.specs.List.{slice_get}
use Rattle.cc_model.specs.Config.{config_fault}
use Rattle.cc_model.specs.Items.{calls_of, calls_made_by}
use Rattle.cc_model.proofs.Grows.{get_front, get_last}
use Rattle.cc_runs.specs.State.{pass_at}
use Rattle.cc_runs.specs.Lines.{event_at}
use Rattle.cc_runs.specs.Run.{IsRun, IsFinished, reached, passes, history_of, number_of}
use Rattle.cc_runs.specs.CallsMade.{made, to_exchange}
use Rattle.cc_runs.specs.ChainLaws.{IsLastAnswer}
use Rattle.cc_runs.proofs.RunPrefixes.{prefixes_begin}
use Rattle.cc_runs.proofs.CallsMade.{calls_made}
use Rattle.cc_runs.proofs.Chains.Frame.{hold_here, hold_apart}
use Rattle.cc_runs.proofs.ListRuns.Ready.{list_answers_told}
use Rattle.cc_judge.proofs.Turns.{set_at, set_elsewhere}
use Rattle.cc_agree.specs.Names.{Body, Call, Entry, Answer, Setting, Served, Phase, Stand, Move, Act, Line}
use Rattle.cc_agree.specs.OneQueue.{begun, returned}
use Rattle.cc_agree.specs.LogOfRun.{threads, last_of, no_line, with_end, ended, log_of, HasBegun, CallsAreLogged, IsLogged, AnswersAreLogged}
use Rattle.cc_agree.proofs.Lists.{two_ends, get_snoc, first_same, second_same}

-- ---- whose call each line is: the pass, and how many calls it had begun before

abbrev pub who : Setting → List Move → List (ℕ × ℕ)
who c [] = []
who c (Move.Begin p call known ∷ earlier) = who c earlier ++ (p, length (made c earlier p)) ∷ []
who c (Move.Step p ∷ earlier) = who c earlier
who c (Move.Take p ∷ earlier) = who c earlier

-- the places of a pass's calls
abbrev pub places : List Move → ℕ → List ℕ
places [] p = []
places (Move.Begin q call known ∷ earlier) p = cond (q == p) (places earlier p ++ length (threads earlier) ∷ []) (places earlier p)
places (Move.Step q ∷ earlier) p = places earlier p
places (Move.Take q ∷ earlier) p = places earlier p

pub length-who : (c : Setting) (moves : List Move) → length (who c moves) ≡ length (threads moves)
length-who c [] = refl
length-who c (Move.Begin p call known ∷ earlier) = omega (arith, length-who c earlier, length-append (who c earlier) ((p, length (made c earlier p)) ∷ []), length-append (threads earlier) (p ∷ []))
length-who c (Move.Step p ∷ earlier) = length-who c earlier
length-who c (Move.Take p ∷ earlier) = length-who c earlier

pub length-log : (c : Setting) (number : Body → ℕ) (clock : ℕ → ℕ) (moves : List Move) → length (log_of c number clock moves) ≡ length (threads moves)
length-log c number clock [] = refl
length-log c number clock (Move.Begin p call known ∷ earlier) = omega (arith, length-log c number clock earlier, length-append (log_of c number clock earlier) (record { begin = clock (length earlier); end = None; act = begun number call } ∷ []), length-append (threads earlier) (p ∷ []))
length-log c number clock (Move.Step p ∷ earlier) = length-log c number clock earlier
length-log c number clock (Move.Take p ∷ earlier) = length-set (log_of c number clock earlier) (last_of p earlier) _ ∙ length-log c number clock earlier

pub threads_grow : (later seen : List Move) → length (threads seen) ≤ length (threads (later ++ seen))
threads_grow [] seen = omega arith
threads_grow (Move.Begin p call known ∷ later) seen = omega (arith, threads_grow later seen, length-append (threads (later ++ seen)) (p ∷ []))
threads_grow (Move.Step p ∷ later) seen = threads_grow later seen
threads_grow (Move.Take p ∷ later) seen = threads_grow later seen

-- ---- the calls of a pass

pub made_here : (c : Setting) (q : ℕ) (call : Call) (known : ℕ) (earlier : List Move) (p : ℕ) → q ≡ p → length (made c (Move.Begin q call known ∷ earlier) p) ≡ length (made c earlier p) + 1
made_here c q call known earlier p is =
    ap (λ (b : Bool). length (cond b (made c earlier p ++ record { pass = pass_at c.config q; call = call; number = number_of call ((reached c earlier).stand q).begun; known = known } ∷ []) (made c earlier p))) (eq-eqb q p is)
    ∙ length-append (made c earlier p) _

pub made_away : (c : Setting) (q : ℕ) (call : Call) (known : ℕ) (earlier : List Move) (p : ℕ) → q ≢ p → made c (Move.Begin q call known ∷ earlier) p ≡ made c earlier p
made_away c q call known earlier p ne =
    ap (λ (b : Bool). cond b (made c earlier p ++ record { pass = pass_at c.config q; call = call; number = number_of call ((reached c earlier).stand q).begun; known = known } ∷ []) (made c earlier p)) (ne_eqb q p ne)

pub made_grows : (c : Setting) (later seen : List Move) (p : ℕ) → length (made c seen p) ≤ length (made c (later ++ seen) p)
made_grows c [] seen p = omega arith
made_grows c (Move.Begin q call known ∷ later) seen p = elim (cases_eq q p) [
  | inl is ↦ omega (arith, made_grows c later seen p, made_here c q call known (later ++ seen) p is)
  | inr ne ↦ omega (arith, made_grows c later seen p, ap length (made_away c q call known (later ++ seen) p ne))
]
made_grows c (Move.Step q ∷ later) seen p = made_grows c later seen p
made_grows c (Move.Take q ∷ later) seen p = made_grows c later seen p

length-places : (c : Setting) (moves : List Move) (p : ℕ) → length (places moves p) ≡ length (made c moves p)
length-places c [] p = refl
length-places c (Move.Begin q call known ∷ earlier) p = elim (cases_eq q p) [
  | inl is ↦ omega (
    arith,
    ap (λ (b : Bool). length (cond b (places earlier p ++ length (threads earlier) ∷ []) (places earlier p))) (eq-eqb q p is),
    length-append (places earlier p) (length (threads earlier) ∷ []),
    length-places c earlier p,
    made_here c q call known earlier p is,
  )
  | inr ne ↦ omega (
    arith,
    ap (λ (b : Bool). length (cond b (places earlier p ++ length (threads earlier) ∷ []) (places earlier p))) (ne_eqb q p ne),
    length-places c earlier p,
    ap length (made_away c q call known earlier p ne),
  )
]
length-places c (Move.Step q ∷ earlier) p = length-places c earlier p
length-places c (Move.Take q ∷ earlier) p = length-places c earlier p

-- the line at the place of a pass's n-th call is of that
pub named : (c : Setting) (moves : List Move) (p n k : ℕ) → slice_get (places moves p) n ≡ Some k → slice_get (who c moves) k ≡ Some (p, n)
named c [] p n k is = absurd (cc)
named c (Move.Begin q call known ∷ earlier) p n k is = elim (cases_eq q p) [
  | inl same ↦
      let got : slice_get (places earlier p ++ length (threads earlier) ∷ []) n ≡ Some k = sym (ap (λ (b : Bool). slice_get (cond b (places earlier p ++ length (threads earlier) ∷ []) (places earlier p)) n) (eq-eqb q p same)) ∙ is in
      elim (get_snoc (places earlier p) (length (threads earlier)) n k got) [
        | inl old ↦ get_front (who c earlier) ((q, length (made c earlier q)) ∷ []) k (p, n) (named c earlier p n k old)
        | inr new ↦
            let last : length (who c earlier) ≡ k = length-who c earlier ∙ new.1 in
            let nth : length (made c earlier p) ≡ n = sym (length-places c earlier p) ∙ sym new.0 in
            ap (slice_get (who c earlier ++ (q, length (made c earlier q)) ∷ [])) (sym last) ∙ get_last (who c earlier) (q, length (made c earlier q))
            ∙ ap (λ (z : ℕ). Some (z, length (made c earlier z))) same ∙ ap (λ (m : ℕ). Some (p, m)) nth
      ]
  | inr ne ↦
      let got : slice_get (places earlier p) n ≡ Some k = sym (ap (λ (b : Bool). slice_get (cond b (places earlier p ++ length (threads earlier) ∷ []) (places earlier p)) n) (ne_eqb q p ne)) ∙ is in
      get_front (who c earlier) ((q, length (made c earlier q)) ∷ []) k (p, n) (named c earlier p n k got)
]
named c (Move.Step q ∷ earlier) p n k is = named c earlier p n k is
named c (Move.Take q ∷ earlier) p n k is = named c earlier p n k is

pub has_place : (c : Setting) (moves : List Move) (p n : ℕ) → n < length (made c moves p) → slice_get (who c moves) (get_or (places moves p) n 0) ≡ Some (p, n)
has_place c moves p n less = named c moves p n (get_or (places moves p) n 0) (slice_get-get_or (places moves p) n 0 (omega (arith, less, length-places c moves p)))

-- and its place is that of the line
pub place_of : (c : Setting) (moves : List Move) (p n k : ℕ) → slice_get (who c moves) k ≡ Some (p, n) → slice_get (places moves p) n ≡ Some k
place_of c [] p n k is = absurd (cc)
place_of c (Move.Begin q call known ∷ earlier) p n k is = elim (get_snoc (who c earlier) (q, length (made c earlier q)) k (p, n) is) [
  | inl old ↦ more (q == p) (place_of c earlier p n k old)
  | inr new ↦
      let pair : ◌≡◌ {A = Option (ℕ × ℕ)} (Some (q, length (made c earlier q))) (Some (p, n)) = ap Some new.1 in
      let same : q ≡ p = first_same q p (length (made c earlier q)) n pair in
      let nth : length (places earlier p) ≡ n = length-places c earlier p ∙ ap (λ (z : ℕ). length (made c earlier z)) (sym same) ∙ second_same q p (length (made c earlier q)) n pair in
      let at : length (threads earlier) ≡ k = sym (length-who c earlier) ∙ sym new.0 in
      ap (λ (b : Bool). slice_get (cond b (places earlier p ++ length (threads earlier) ∷ []) (places earlier p)) n) (eq-eqb q p same)
      ∙ ap (slice_get (places earlier p ++ length (threads earlier) ∷ [])) (sym nth) ∙ get_last (places earlier p) (length (threads earlier)) ∙ ap Some at
]
  where
    more : (b : Bool) → slice_get (places earlier p) n ≡ Some k → slice_get (cond b (places earlier p ++ length (threads earlier) ∷ []) (places earlier p)) n ≡ Some k
    more true old = get_front (places earlier p) (length (threads earlier) ∷ []) n k old
    more false old = old
place_of c (Move.Step q ∷ earlier) p n k is = place_of c earlier p n k is
place_of c (Move.Take q ∷ earlier) p n k is = place_of c earlier p n k is

-- the last line of a pass is of its last call
last_is : (c : Setting) (moves : List Move) (p m : ℕ) → length (made c moves p) ≡ m + 1 → slice_get (who c moves) (last_of p moves) ≡ Some (p, m)
last_is c [] p m some = absurd (omega (arith, some))
last_is c (Move.Begin q call known ∷ earlier) p m some = elim (cases_eq q p) [
  | inl same ↦
      let at : last_of p (Move.Begin q call known ∷ earlier) ≡ length (who c earlier) = ap (λ (b : Bool). cond b (length (threads earlier)) (last_of p earlier)) (eq-eqb q p same) ∙ sym (length-who c earlier) in
      let nth : length (made c earlier p) ≡ m = omega (arith, some, made_here c q call known earlier p same) in
      ap (slice_get (who c earlier ++ (q, length (made c earlier q)) ∷ [])) at ∙ get_last (who c earlier) (q, length (made c earlier q))
      ∙ ap (λ (z : ℕ). Some (z, length (made c earlier z))) same ∙ ap (λ (n : ℕ). Some (p, n)) nth
  | inr ne ↦
      let at : last_of p (Move.Begin q call known ∷ earlier) ≡ last_of p earlier = ap (λ (b : Bool). cond b (length (threads earlier)) (last_of p earlier)) (ne_eqb q p ne) in
      ap (slice_get (who c earlier ++ (q, length (made c earlier q)) ∷ [])) at
      ∙ get_front (who c earlier) ((q, length (made c earlier q)) ∷ []) (last_of p earlier) (p, m) (last_is c earlier p m (sym (ap length (made_away c q call known earlier p ne)) ∙ some))
]
last_is c (Move.Step q ∷ earlier) p m some = last_is c earlier p m some
last_is c (Move.Take q ∷ earlier) p m some = last_is c earlier p m some

-- and the other way round
pub thread_of : (c : Setting) (moves : List Move) (k p n : ℕ) → slice_get (who c moves) k ≡ Some (p, n) → slice_get (threads moves) k ≡ Some p
thread_of c [] k p n is = absurd (cc)
thread_of c (Move.Begin q call known ∷ earlier) k p n is = elim (get_snoc (who c earlier) (q, length (made c earlier q)) k (p, n) is) [
  | inl old ↦ get_front (threads earlier) (q ∷ []) k p (thread_of c earlier k p n old)
  | inr new ↦
      let pair : ◌≡◌ {A = Option (ℕ × ℕ)} (Some (q, length (made c earlier q))) (Some (p, n)) = ap Some new.1 in
      let at : k ≡ length (threads earlier) = new.0 ∙ length-who c earlier in
      ap (slice_get (threads earlier ++ q ∷ [])) at ∙ get_last (threads earlier) q ∙ ap Some (first_same q p (length (made c earlier q)) n pair)
]
thread_of c (Move.Step q ∷ earlier) k p n is = thread_of c earlier k p n is
thread_of c (Move.Take q ∷ earlier) k p n is = thread_of c earlier k p n is

-- the calls of a thread are those of its pass
pub of_thread : (c : Setting) (moves : List Move) (k p : ℕ) → slice_get (threads moves) k ≡ Some p → (n : ℕ) × (slice_get (who c moves) k ≡ Some (p, n))
of_thread c [] k p is = absurd (cc)
of_thread c (Move.Begin q call known ∷ earlier) k p is = elim (get_snoc (threads earlier) q k p is) [
  | inl old ↦ let w : (n : ℕ) × (slice_get (who c earlier) k ≡ Some (p, n)) = of_thread c earlier k p old in (w.0, get_front (who c earlier) ((q, length (made c earlier q)) ∷ []) k (p, w.0) w.1)
  | inr new ↦
      let at : k ≡ length (who c earlier) = new.0 ∙ sym (length-who c earlier) in
      (length (made c earlier p), ap (slice_get (who c earlier ++ (q, length (made c earlier q)) ∷ [])) at ∙ get_last (who c earlier) (q, length (made c earlier q)) ∙ ap (λ (z : ℕ). Some (z, length (made c earlier z))) new.1)
]
of_thread c (Move.Step q ∷ earlier) k p is = of_thread c earlier k p is
of_thread c (Move.Take q ∷ earlier) k p is = of_thread c earlier k p is

-- the entry of a call that began
pub made_nth : (c : Setting) (later before : List Move) (p : ℕ) (call : Call) (known : ℕ)
    → slice_get (made c (later ++ Move.Begin p call known ∷ before) p) (length (made c before p)) ≡ Some (record { pass = pass_at c.config p; call = call; number = number_of call ((reached c before).stand p).begun; known = known })
made_nth c [] before p call known =
    ap (λ (b : Bool). slice_get (cond b (made c before p ++ record { pass = pass_at c.config p; call = call; number = number_of call ((reached c before).stand p).begun; known = known } ∷ []) (made c before p)) (length (made c before p))) (eq-eqb p p refl)
    ∙ get_last (made c before p) _
made_nth c (Move.Begin q call' known' ∷ later) before p call known = elim (cases_eq q p) [
  | inl is ↦
      ap (λ (b : Bool). slice_get (cond b (made c (later ++ Move.Begin p call known ∷ before) p ++ record { pass = pass_at c.config q; call = call'; number = number_of call' ((reached c (later ++ Move.Begin p call known ∷ before)).stand q).begun; known = known' } ∷ [])
      (made c (later ++ Move.Begin p call known ∷ before) p)) (length (made c before p))) (eq-eqb q p is)
      ∙ get_front (made c (later ++ Move.Begin p call known ∷ before) p) _ (length (made c before p)) _ (made_nth c later before p call known)
  | inr ne ↦ ap (λ (l : List Entry). slice_get l (length (made c before p))) (made_away c q call' known' (later ++ Move.Begin p call known ∷ before) p ne) ∙ made_nth c later before p call known
]
made_nth c (Move.Step q ∷ later) before p call known = made_nth c later before p call known
made_nth c (Move.Take q ∷ later) before p call known = made_nth c later before p call known

-- a pass whose answer was read has begun a call, and its last is answered so
pub record IsLast (c : Setting) (moves : List Move) (p : ℕ) (told : Answer) : Type 0 where
  pub before : List (Entry × Option Answer)
  pub entry : Entry
  pub last : calls_of (pass_at c.config p) (history_of c moves) ≡ before ++ (entry, Some told) ∷ []
  pub many : length (made c moves p) ≡ length before + 1

pub is_last : (c : Setting) → c.served ≡ Served.List → config_fault c.config ≡ Ok tt → (moves : List Move) → IsRun c moves → (p : ℕ) → p < passes c → (told : Answer) → ((reached c moves).stand p).phase ≡ Phase.Finished told → IsLast c moves p told
is_last c serves checked moves run p less told finished =
    let a : IsLastAnswer (pass_at c.config p) (history_of c moves) told = list_answers_told c moves serves checked run p told less finished in
    let calls : made c moves p ≡ calls_made_by (pass_at c.config p) (history_of c moves) ++ [] = calls_made c checked moves run p less ∙ ap (λ (z : Phase). calls_made_by (pass_at c.config p) (history_of c moves) ++ to_exchange z) finished in
    record {
      before = a.before;
      entry = a.entry;
      last = a.last;
      many = omega (
        arith,
        ap length calls,
        length-append (calls_made_by (pass_at c.config p) (history_of c moves)) [],
        length-map (calls_of (pass_at c.config p) (history_of c moves)) (λ (z : Entry × Option Answer). z.0),
        ap length a.last,
        length-append a.before ((a.entry, Some told) ∷ []),
      );
    }

-- ---- what each line says

module _ (c : Setting) (number : Body → ℕ) (clock : ℕ → ℕ) where
  -- the answer of the call was taken, which is the last that its pass had begun by then; until the pass begins another, it is idle
  pub record Ended (moves : List Move) (p n : ℕ) (call : Call) (line : Line) : Type 0 where
    pub later : List Move
    pub seen : List Move
    pub split : moves ≡ later ++ Move.Take p ∷ seen
    pub end_is : line.end ≡ Some (clock (length seen))
    pub told : Answer
    pub phase_is : ((reached c seen).stand p).phase ≡ Phase.Finished told
    pub act_is : returned number (begun number call) told ≡ Some line.act
    pub nth : length (made c seen p) ≡ n + 1
    pub idle : length (made c moves p) ≡ n + 1 → ((reached c moves).stand p).phase ≡ Phase.Idle

  -- it wasn't
  pub record Open (call : Call) (line : Line) : Type 0 where
    pub end_is : line.end ≡ None
    pub act_is : line.act ≡ begun number call

  -- the line at a place is of the n-th call of a pass
  pub record Logged (moves : List Move) (k p n : ℕ) (line : Line) : Type 0 where
    pub call : Call
    pub known : ℕ
    pub later : List Move
    pub before : List Move
    pub split : moves ≡ later ++ Move.Begin p call known ∷ before
    pub begin_is : line.begin ≡ clock (length before)
    pub place_is : k ≡ length (threads before)
    pub nth : length (made c before p) ≡ n
    pub state : Open call line ⊎ Ended moves p n call line

  -- and of the entry with that number
  pub call_of : (moves : List Move) (k p n : ℕ) (line : Line) (g : Logged moves k p n line) (e : Entry) → slice_get (made c moves p) n ≡ Some e → g.call ≡ e.call
  call_of moves k p n line g e is =
      let entry : Entry = record { pass = pass_at c.config p; call = g.call; number = number_of g.call ((reached c g.before).stand p).begun; known = g.known } in
      let there : slice_get (made c moves p) n ≡ Some entry =
      ap (λ (m : List Move). slice_get (made c m p) n) g.split ∙ ap (slice_get (made c (g.later ++ Move.Begin p g.call g.known ∷ g.before) p)) (sym g.nth) ∙ made_nth c g.later g.before p g.call g.known in
      let both : Some entry ≡ Some e = sym there ∙ is in
      let same : entry ≡ e = cc in
      ap (λ (z : Entry). z.call) same

  idle_next : (m : Move) (earlier : List Move) → IsRun c (m ∷ earlier) → (p n : ℕ) → n + 1 ≤ length (made c earlier p) → (length (made c earlier p) ≡ n + 1 → ((reached c earlier).stand p).phase ≡ Phase.Idle)
      → length (made c (m ∷ earlier) p) ≡ n + 1 → ((reached c (m ∷ earlier)).stand p).phase ≡ Phase.Idle
  idle_next (Move.Begin q call known) earlier run p n some idle same = elim (cases_eq q p) [
    | inl is ↦ absurd (omega (arith, some, same, made_here c q call known earlier p is))
    | inr ne ↦ ap (λ (z : Stand). z.phase) (hold_apart (reached c earlier).stand q p _ (λ e. ne (sym e))) ∙ idle (sym (ap length (made_away c q call known earlier p ne)) ∙ same)
  ]
  idle_next (Move.Step q) earlier run p n some idle same = elim (cases_eq q p) [
    | inl is ↦ absurd (run.1.1 (ap event_at (ap (λ (z : ℕ). ((reached c earlier).stand z).phase) is ∙ idle same)))
    | inr ne ↦ ap (λ (z : Stand). z.phase) (hold_apart (reached c earlier).stand q p _ (λ e. ne (sym e))) ∙ idle same
  ]
  idle_next (Move.Take q) earlier run p n some idle same = elim (cases_eq q p) [
    | inl is ↦ absurd (subst IsFinished (ap (λ (z : ℕ). ((reached c earlier).stand z).phase) is ∙ idle same) run.1.1)
    | inr ne ↦ ap (λ (z : Stand). z.phase) (hold_apart (reached c earlier).stand q p _ (λ e. ne (sym e))) ∙ idle same
  ]

  -- a move that doesn't touch the line
  lift_state : (m : Move) (earlier : List Move) → IsRun c (m ∷ earlier) → (p n : ℕ) (call : Call) (line : Line) → Open call line ⊎ Ended earlier p n call line → Open call line ⊎ Ended (m ∷ earlier) p n call line
  lift_state m earlier run p n call line (inl still) = inl still
  lift_state m earlier run p n call line (inr e) = inr (record {
    later = m ∷ e.later;
    seen = e.seen;
    split = ap (λ (l : List Move). m ∷ l) e.split;
    end_is = e.end_is;
    told = e.told;
    phase_is = e.phase_is;
    act_is = e.act_is;
    nth = e.nth;
    idle = idle_next m earlier run p n (omega (arith, e.nth, made_grows c e.later (Move.Take p ∷ e.seen) p, ap (λ (l : List Move). length (made c l p)) e.split)) e.idle;
  })

  lift : (m : Move) (earlier : List Move) → IsRun c (m ∷ earlier) → (k p n : ℕ) (line : Line) → Logged earlier k p n line → Logged (m ∷ earlier) k p n line
  lift m earlier run k p n line l = record {
    call = l.call;
    known = l.known;
    later = m ∷ l.later;
    before = l.before;
    split = ap (λ (z : List Move). m ∷ z) l.split;
    begin_is = l.begin_is;
    place_is = l.place_is;
    nth = l.nth;
    state = lift_state m earlier run p n l.call line l.state;
  }

  -- the line at this place
  abbrev pub Has : List Move → ℕ → ℕ → ℕ → Type 0
  Has moves k p n = (line : Line) × (slice_get (log_of c number clock moves) k ≡ Some line) × Logged moves k p n line

  module _ (serves : c.served ≡ Served.List) (checked : config_fault c.config ≡ Ok tt) where
    module _ (q : ℕ) (earlier : List Move) (run : IsRun c (Move.Take q ∷ earlier)) where
      abbrev log : List Line
      log = log_of c number clock earlier

      abbrev at : ℕ
      at = last_of q earlier

      abbrev time : ℕ
      time = clock (length earlier)

      abbrev new : Line
      new = ended number time ((reached c earlier).stand q).phase (slice_index_or log at no_line)

      finished : (z : Phase) → IsFinished z → (told : Answer) × (z ≡ Phase.Finished told)
      finished (Phase.Finished told) is = (told, refl)
      finished _ is = absurd is

      by_act : (n : ℕ) (told : Answer) (line : Line) → ((reached c earlier).stand q).phase ≡ Phase.Finished told → length (made c earlier q) ≡ n + 1 → slice_get log at ≡ Some line → (l : Logged earlier at q n line)
          → Open l.call line → (r : Option Act) → returned number line.act told ≡ r → slice_get (slice_set log at new) at ≡ Some (with_end time line r) → Has (Move.Take q ∷ earlier) at q n
      by_act n told line phase_is last got l still None is now = (line, now, lift (Move.Take q) earlier run at q n line l)
      by_act n told line phase_is last got l still (Some act) is now = (
        with_end time line (Some act),
        now,
        record {
          call = l.call;
          known = l.known;
          later = Move.Take q ∷ l.later;
          before = l.before;
          split = ap (λ (z : List Move). Move.Take q ∷ z) l.split;
          begin_is = l.begin_is;
          place_is = l.place_is;
          nth = l.nth;
          state = inr (record {
            later = [];
            seen = earlier;
            split = refl;
            end_is = refl;
            told = told;
            phase_is = phase_is;
            act_is = ap (λ (a : Act). returned number a told) (sym still.act_is) ∙ is;
            nth = last;
            idle = λ same. ap (λ (z : Stand). z.phase) (hold_here (reached c earlier).stand q _);
          });
        },
      )

      -- the line of the call whose answer is taken has no end
      open_line : (n : ℕ) (told : Answer) → ((reached c earlier).stand q).phase ≡ Phase.Finished told → length (made c earlier q) ≡ n + 1 → (h : Has earlier at q n) → Open h.2.call h.0
      open_line n told phase_is last h = elim (h.2.state) [
        | inl still ↦ still
        | inr e ↦ let no : Phase.Idle ≡ Phase.Finished told = sym (e.idle last) ∙ phase_is in absurd (cc)
      ]

      mine : (n : ℕ) (told : Answer) → ((reached c earlier).stand q).phase ≡ Phase.Finished told → length (made c earlier q) ≡ n + 1 → Has earlier at q n → Has (Move.Take q ∷ earlier) at q n
      mine n told phase_is last h =
          let line : Line = h.0 in
          let old : slice_index_or log at no_line ≡ h.0 = get_or_from_slice_get log at h.0 no_line h.1 in
          let is : new ≡ with_end time h.0 (returned number h.0.act told) = λ i. ended number time (phase_is i) (old i) in
          let now : slice_get (slice_set log at new) at ≡ Some (with_end time h.0 (returned number h.0.act told)) = set_at log at h.0 new h.1 ∙ ap Some is in
          by_act n told h.0 phase_is last h.1 h.2 (open_line n told phase_is last h) (returned number h.0.act told) refl now

      taken : (k p n : ℕ) → slice_get (who c earlier) k ≡ Some (p, n) → Has earlier k p n → Has (Move.Take q ∷ earlier) k p n
      taken k p n is h = elim (cases_eq k at) [
        | inl same ↦
            let f : (told : Answer) × (((reached c earlier).stand q).phase ≡ Phase.Finished told) = finished ((reached c earlier).stand q).phase run.1.1 in
            let l : IsLast c earlier q f.0 = is_last c serves checked earlier run.0 q run.1.0 f.0 f.1 in
            let both : slice_get (who c earlier) at ≡ Some (q, length l.before) = last_is c earlier q (length l.before) l.many in
            let equal : ◌≡◌ {A = Option (ℕ × ℕ)} (Some (q, length l.before)) (Some (p, n)) = sym both ∙ ap (slice_get (who c earlier)) (sym same) ∙ is in
            let pass_is : q ≡ p = first_same q p (length l.before) n equal in
            let nth : length l.before ≡ n = second_same q p (length l.before) n equal in
            subst (λ (z : ℕ). Has (Move.Take q ∷ earlier) z p n) (sym same) (subst (λ (z : ℕ). Has (Move.Take q ∷ earlier) at z n) pass_is
            (mine n f.0 f.1 (omega (arith, l.many, nth)) (subst (λ (z : ℕ). Has earlier at z n) (sym pass_is) (subst (λ (z : ℕ). Has earlier z p n) same h))))
        | inr ne ↦ (h.0, set_elsewhere log at k new ne ∙ h.1, lift (Move.Take q) earlier run k p n h.0 h.2)
      ]

    pub all_logged : (moves : List Move) → IsRun c moves → (k p n : ℕ) → slice_get (who c moves) k ≡ Some (p, n) → Has moves k p n
    all_logged [] run k p n is = absurd (cc)
    all_logged (Move.Begin q call known ∷ earlier) run k p n is = elim (get_snoc (who c earlier) (q, length (made c earlier q)) k (p, n) is) [
      | inl old ↦
          let h : Has earlier k p n = all_logged earlier run.0 k p n old in
          (h.0, get_front (log_of c number clock earlier) (line ∷ []) k h.0 h.1, lift (Move.Begin q call known) earlier run k p n h.0 h.2)
      | inr new ↦
          let at : k ≡ length (log_of c number clock earlier) = new.0 ∙ length-who c earlier ∙ sym (length-log c number clock earlier) in
          let pair : ◌≡◌ {A = Option (ℕ × ℕ)} (Some (q, length (made c earlier q))) (Some (p, n)) = ap Some new.1 in
          let pass_is : q ≡ p = first_same q p (length (made c earlier q)) n pair in
          let nth : length (made c earlier q) ≡ n = second_same q p (length (made c earlier q)) n pair in (
            line,
            ap (slice_get (log_of c number clock earlier ++ line ∷ [])) at ∙ get_last (log_of c number clock earlier) line,
            subst (λ (z : ℕ). Logged (Move.Begin q call known ∷ earlier) k z n line) pass_is (record {
              call = call;
              known = known;
              later = [];
              before = earlier;
              split = refl;
              begin_is = refl;
              place_is = new.0 ∙ length-who c earlier;
              nth = nth;
              state = inl (record { end_is = refl; act_is = refl });
            }),
          )
    ]
      where
        line : Line
        line = record { begin = clock (length earlier); end = None; act = begun number call }
    all_logged (Move.Step q ∷ earlier) run k p n is =
        let h : Has earlier k p n = all_logged earlier run.0 k p n is in (h.0, h.1, lift (Move.Step q) earlier run k p n h.0 h.2)
    all_logged (Move.Take q ∷ earlier) run k p n is = taken q earlier run k p n is (all_logged earlier run.0 k p n is)

    -- ---- calls are in the log from their begin on

    who_at : (later before : List Move) (p : ℕ) (call : Call) (known : ℕ) → slice_get (who c (later ++ Move.Begin p call known ∷ before)) (length (threads before)) ≡ Some (p, length (made c before p))
    who_at [] before p call known = ap (slice_get (who c before ++ (p, length (made c before p)) ∷ [])) (sym (length-who c before)) ∙ get_last (who c before) (p, length (made c before p))
    who_at (Move.Begin q other seen ∷ later) before p call known =
        get_front (who c (later ++ Move.Begin p call known ∷ before)) ((q, length (made c (later ++ Move.Begin p call known ∷ before) q)) ∷ []) (length (threads before)) (p, length (made c before p)) (who_at later before p call known)
    who_at (Move.Step q ∷ later) before p call known = who_at later before p call known
    who_at (Move.Take q ∷ later) before p call known = who_at later before p call known

    -- of two begins of one run the longer moves before have more calls
    fewer : (one two : List Move) (p q : ℕ) (first second : Call) (m n : ℕ) (before other : List Move) → one ++ Move.Begin p first m ∷ before ≡ two ++ Move.Begin q second n ∷ other → length (threads other) ≤ length (threads before) → length other ≤ length before
    fewer one two p q first second m n before other same less = elim (cases_lt (length before) (length other)) [
      | inl shorter ↦
          let part : (part : List Move) × (other ≡ part ++ Move.Begin p first m ∷ before) = two_ends one (Move.Begin p first m ∷ before) (two ++ Move.Begin q second n ∷ []) other (same ∙ sym (append_assoc two (Move.Begin q second n ∷ []) other)) (omega (arith, shorter)) in
          absurd (omega (arith, less, threads_grow part.0 (Move.Begin p first m ∷ before), ap (λ (z : List Move). length (threads z)) part.1, length-append (threads before) (p ∷ [])))
      | inr longer ↦ longer
    ]

    pub has_begun : (later before : List Move) (p : ℕ) (call : Call) (known : ℕ) → IsRun c (later ++ Move.Begin p call known ∷ before) → HasBegun c number clock (later ++ Move.Begin p call known ∷ before) before p call
    has_begun later before p call known run = record {
      line = h.0;
      mine = thread_of c (later ++ Move.Begin p call known ∷ before) (length (threads before)) p (length (made c before p)) who_is;
      has = h.1;
      begin_is = h.2.begin_is ∙ ap clock same_time;
      act_is = λ none. by_state none h.2.state;
    }
      where
        who_is : slice_get (who c (later ++ Move.Begin p call known ∷ before)) (length (threads before)) ≡ Some (p, length (made c before p))
        who_is = who_at later before p call known

        h : Has (later ++ Move.Begin p call known ∷ before) (length (threads before)) p (length (made c before p))
        h = all_logged (later ++ Move.Begin p call known ∷ before) run (length (threads before)) p (length (made c before p)) who_is

        same_time : length h.2.before ≡ length before
        same_time = omega (
          arith,
          fewer later h.2.later p p call h.2.call known h.2.known before h.2.before h.2.split (omega (arith, h.2.place_is)),
          fewer h.2.later later p p h.2.call call h.2.known known h.2.before before (sym h.2.split) (omega (arith, h.2.place_is)),
        )

        same_call : h.2.call ≡ call
        same_call = call_of (later ++ Move.Begin p call known ∷ before) (length (threads before)) p (length (made c before p)) h.0 h.2 (record { pass = pass_at c.config p; call = call; number = number_of call ((reached c before).stand p).begun; known = known })
            (made_nth c later before p call known)

        by_state : h.0.end ≡ None → Open h.2.call h.0 ⊎ Ended (later ++ Move.Begin p call known ∷ before) p (length (made c before p)) h.2.call h.0 → h.0.act ≡ begun number call
        by_state none (inl still) = still.act_is ∙ ap (begun number) same_call
        by_state none (inr x) = let no : Some (clock (length x.seen)) ≡ None = sym x.end_is ∙ none in absurd (cc)

    -- ---- answers stay in the log

    -- the line of the call whose answer is taken
    record Line_at (q : ℕ) (earlier : List Move) : Type 0 where
      line : Line
      mine : slice_get (threads earlier) (last_of q earlier) ≡ Some q
      had : slice_get (log_of c number clock earlier) (last_of q earlier) ≡ Some line
      waited : line.end ≡ None

    line_taken : (q : ℕ) (earlier : List Move) → IsRun c (Move.Take q ∷ earlier) → Line_at q earlier
    line_taken q earlier run =
        let f : (told : Answer) × (((reached c earlier).stand q).phase ≡ Phase.Finished told) = finished q earlier run ((reached c earlier).stand q).phase run.1.1 in
        let l : IsLast c earlier q f.0 = is_last c serves checked earlier run.0 q run.1.0 f.0 f.1 in
        let who_is : slice_get (who c earlier) (last_of q earlier) ≡ Some (q, length l.before) = last_is c earlier q (length l.before) l.many in
        let h : Has earlier (last_of q earlier) q (length l.before) = all_logged earlier run.0 (last_of q earlier) q (length l.before) who_is in
        let still : Open h.2.call h.0 = open_line q earlier run (length l.before) f.0 f.1 l.many h in
        record { line = h.0; mine = thread_of c earlier (last_of q earlier) q (length l.before) who_is; had = h.1; waited = still.end_is }

    -- a line with an end stays
    stays : (m : Move) (earlier : List Move) → IsRun c (m ∷ earlier) → (k t : ℕ) (line : Line) → line.end ≡ Some t → slice_get (log_of c number clock earlier) k ≡ Some line → slice_get (log_of c number clock (m ∷ earlier)) k ≡ Some line
    stays (Move.Begin q call known) earlier run k t line end_is is = get_front (log_of c number clock earlier) _ k line is
    stays (Move.Step q) earlier run k t line end_is is = is
    stays (Move.Take q) earlier run k t line end_is is = elim (cases_eq k (last_of q earlier)) [
      | inl same ↦
          let w : Line_at q earlier = line_taken q earlier run in
          let both : Some w.line ≡ Some line = sym w.had ∙ ap (slice_get (log_of c number clock earlier)) (sym same) ∙ is in
          let one : w.line ≡ line = cc in
          let no : None ≡ Some t = sym w.waited ∙ ap (λ (z : Line). z.end) one ∙ end_is in
          absurd (cc)
      | inr ne ↦ set_elsewhere (log_of c number clock earlier) (last_of q earlier) k _ ne ∙ is
    ]

    stay : (later seen : List Move) → IsRun c (later ++ seen) → (k t : ℕ) (line : Line) → line.end ≡ Some t → slice_get (log_of c number clock seen) k ≡ Some line → slice_get (log_of c number clock (later ++ seen)) k ≡ Some line
    stay [] seen run k t line end_is is = is
    stay (m ∷ later) seen run k t line end_is is = stays m (later ++ seen) run k t line end_is (stay later seen run.0 k t line end_is is)

    pub logged : (later seen : List Move) (p : ℕ) (told : Answer) → IsRun c (later ++ Move.Take p ∷ seen) → ((reached c seen).stand p).phase ≡ Phase.Finished told → IsLogged c number clock later seen p told
    logged later seen p told run phase_is = record { place = last_of p seen; old = w.line; mine = w.mine; had = w.had; waited = w.waited; has = has }
      where
        taken_run : IsRun c (Move.Take p ∷ seen)
        taken_run = (prefixes_begin c later (Move.Take p ∷ seen) run).0

        w : Line_at p seen
        w = line_taken p seen taken_run

        has : (act : Act) → returned number w.line.act told ≡ Some act → slice_get (log_of c number clock (later ++ Move.Take p ∷ seen)) (last_of p seen) ≡ Some (record { begin = w.line.begin; end = Some (clock (length seen)); act = act })
        has act is =
            let old : slice_index_or (log_of c number clock seen) (last_of p seen) no_line ≡ w.line = get_or_from_slice_get (log_of c number clock seen) (last_of p seen) w.line no_line w.had in
            let new : ended number (clock (length seen)) ((reached c seen).stand p).phase (slice_index_or (log_of c number clock seen) (last_of p seen) no_line) ≡ with_end (clock (length seen)) w.line (returned number w.line.act told) =
            (λ i. ended number (clock (length seen)) (phase_is i) (old i)) in
            stay later (Move.Take p ∷ seen) run (last_of p seen) (clock (length seen)) (record { begin = w.line.begin; end = Some (clock (length seen)); act = act }) refl
            (set_at (log_of c number clock seen) (last_of p seen) w.line _ w.had ∙ ap Some (new ∙ ap (with_end (clock (length seen)) w.line) is))

pub calls_are_logged : CallsAreLogged
calls_are_logged c later before number clock p call known serves checked run = has_begun c number clock serves checked later before p call known run

pub answers_are_logged : AnswersAreLogged
answers_are_logged c later seen number clock p told serves checked run phase_is = logged c number clock serves checked later seen p told run phase_is
