-- A program that runs beside another one. It makes the other's accesses, and its own states go on by what these find.
-- So the pairs of both states make a program, whose runs are those of the other. The law of posted stores speaks of the
-- pairs too: so the program beside finds the same with store buffers as by atomic steps.
use Rattle.std.proofs.Common.{◌≡◌, ℕ, Bool, true, cond, ◌==◌, refl, ap, sym, ◌∙◌, subst, List, [], ◌∷◌, ◌++◌, Option, arith}
use Rattle.cc_x86.specs.Program.{Operation, Store, Program, State, Effect, Turn, hold, found, written}
use Rattle.cc_x86.specs.Sequential as atomic
use Rattle.cc_x86.specs.Buffered as buffers
use Rattle.cc_x86.specs.Buffered.{Plain, is_plain, Waiting, Machine, found_behind, at_once, buffered, acts_with, MayAct}
use Rattle.cc_x86.specs.Posted.{Waits, AreWaiting, IsLook, Agrees, Leads, Opens, Posts, Looks, Writes, Settles, IsApart, IsOrderly, Order, acts_in, drains_in, order}
use Rattle.cc_x86.specs.Driven as driven
use Rattle.cc_x86.specs.Driven.{Tagged, Crew, Move, TakesUp, Leaves, Acts, Drains, stores, tagged, waits_more, Fresh, StaysFresh, AreFresh, IsDrivenRun, drains_of, by_passes, drains_with, done}

-- a load that waits leaves the state beside as it was, as it leaves the thread's own
abbrev pub beside : {W S X : Type 0} → Program W S → Waits S → (ℕ → X → ℕ → X) → Program W (S × X)
beside c waits after = record {
  same = c.same;
  next = λ p own. c.next p own.0;
  after = λ p own x. (c.after p own.0 x, cond (waits p own.0 x) own.1 (after p own.1 x));
}

abbrev pub open_both : {W S X : Type 0} → State W S → (ℕ → X) → State W (S × X)
open_both s begun = record { words = s.words; own = λ p. (s.own p, begun p) }

abbrev pub plain_both : {S X : Type 0} → Plain S → Plain (S × X)
plain_both plain p own = plain p own.0

abbrev pub waits_both : {S X : Type 0} → Waits S → Waits (S × X)
waits_both waits p own x = waits p own.0 x

abbrev pub fresh_both : {S X : Type 0} → Fresh S → Fresh (S × X)
fresh_both fresh p own = fresh p own.0

abbrev pub firsts : {S X : Type 0} → (ℕ → S × X) → ℕ → S
firsts own p = (own p).0

first_cond : {S X : Type 0} (b : Bool) (x y : S × X) → (cond b x y).0 ≡ cond b x.0 y.0
first_cond b x y = grind arith

hold_first : {S X : Type 0} (xs : ℕ → S × X) (p : ℕ) (x : S × X) → firsts (hold xs p x) ≡ hold (firsts xs) p x.0
hold_first xs p x = λ i q. first_cond (p == q) x (xs q) i

module _ {W S X : Type 0} (c : Program W S) (plain : Plain S) (waits : Waits S) (fresh : Fresh S) (s : State W S)
    (after : ℕ → X → ℕ → X) (begun : ℕ → X) where
  abbrev B : Program W (S × X)
  B = beside c waits after

  abbrev sb : State W (S × X)
  sb = open_both s begun

  -- ---- by atomic steps

  abbrev pub first_state : State W (S × X) → State W S
  first_state r = record { words = r.words; own = firsts r.own }

  stepped_first : (r : State W (S × X)) (p told : ℕ) (does : Operation W)
      → first_state (atomic.stepped_by B r p told does) ≡ atomic.stepped_by c (first_state r) p told does
  stepped_first r p told does = λ i.
      record {
        words = written c.same r.words does;
        own = hold_first r.own p (B.after p (r.own p) (found r.words does told)) i;
      }

  pub reached_first : (ts : List Turn) → first_state (atomic.reached B sb ts) ≡ atomic.reached c s ts
  reached_first [] = refl
  reached_first (t ∷ earlier) =
      let r : State W (S × X) = atomic.reached B sb earlier in
      stepped_first r t.thread t.told (B.next t.thread (r.own t.thread))
      ∙ ap (λ (z : State W S). atomic.stepped_by c z t.thread t.told (c.next t.thread (z.own t.thread)))
      (reached_first earlier)

  look_first : (p : ℕ) (own : S × X) (words : W → ℕ) (posted : List (Waiting W)) (settled : W → ℕ) (does : Operation W)
      → IsLook c.same (waits_both waits) p own words posted settled does
      → IsLook c.same waits p own.0 words posted settled does
  look_first p own words posted settled does look = grind arith

  leads_first : {ts : List Turn} {settled : W → ℕ} {posted : ℕ → List (Waiting W)} {busy : Option ℕ}
      → Leads B (plain_both plain) (waits_both waits) sb ts settled posted busy
      → Leads c plain waits s ts settled posted busy
  leads_first Opens = Opens
  leads_first (Posts {ts} {settled} {posted} {busy} p w v l its agrees is early) =
      Posts p w v (leads_first l) its
      (subst (λ (z : State W S). Agrees c.same z.words posted settled) (reached_first ts) agrees)
      (subst (λ (z : State W S). c.next p (z.own p) ≡ Store w v) (reached_first ts) is)
      (subst (λ (z : State W S). plain p (z.own p) ≡ true) (reached_first ts) early)
  leads_first (Looks {ts} {settled} {posted} {busy} p told does l its is look) =
      let r : State W (S × X) = atomic.reached B sb ts in
      Looks p told does (leads_first l) its
      (subst (λ (z : State W S). c.next p (z.own p) ≡ does) (reached_first ts) is)
      (subst (λ (z : State W S). IsLook c.same waits p (z.own p) z.words (posted p) settled does) (reached_first ts)
      (look_first p (r.own p) r.words (posted p) settled does look))
  leads_first (Writes {ts} {settled} {posted} p told does l is write none) =
      Writes p told does (leads_first l) (subst (λ (z : State W S). c.next p (z.own p) ≡ does) (reached_first ts) is)
      write none
  leads_first (Settles p e newer l is) = Settles p e newer (leads_first l) is

  apart_both : (p : ℕ) (own : S × X) (posted : ℕ → List (Waiting W)) (settled : W → ℕ) (does : Operation W)
      → IsApart c.same waits p own.0 posted settled does → IsApart c.same (waits_both waits) p own posted settled does
  apart_both p own posted settled does apart = grind arith

  pub orderly_both : (Holds : List Turn → Type 0)
      → IsOrderly c plain waits s Holds → IsOrderly B (plain_both plain) (waits_both waits) sb Holds
  orderly_both Holds orderly ts settled posted busy l holds p its =
      let r : State W (S × X) = atomic.reached B sb ts in
      apart_both p (r.own p) posted settled (B.next p (r.own p))
      (subst (λ (z : State W S). IsApart c.same waits p (z.own p) posted settled (c.next p (z.own p)))
      (sym (reached_first ts))
      (orderly ts settled posted busy (leads_first l) holds p its))

  pub waiting_both : AreWaiting c waits → AreWaiting B (waits_both waits)
  waiting_both are p own x it = λ i. (are p own.0 x it i, ap (λ (b : Bool). cond b own.1 (after p own.1 x)) it i)

  -- ---- with a buffer for each

  flag_first : (p : ℕ) (own : S × X) (plainly : Bool)
      → is_plain (plain_both plain) p own plainly ≡ is_plain plain p own.0 plainly
  flag_first p own plainly = grind arith

  abbrev first_machine : Machine W (S × X) → Machine W S
  first_machine m = record { words = m.words; own = firsts m.own; buffer = m.buffer }

  drained_first : (m : Machine W (S × X)) (p : ℕ) (l : List (Waiting W))
      → first_machine (buffers.drained_by B m p l) ≡ buffers.drained_by c (first_machine m) p l
  drained_first m p l = grind arith

  moved_first : (m : Machine W (S × X)) (move : buffers.Move)
      → first_machine (buffers.moved B (plain_both plain) m move) ≡ buffers.moved c plain (first_machine m) move
  moved_first m (buffers.Acts t plainly) =
      let p : ℕ = t.thread in
      let does : Operation W = c.next p (m.own p).0 in
      λ i. record {
        words = at_once c.same m.words does (flag_first p (m.own p) plainly i);
        own = hold_first m.own p (B.after p (m.own p) (found_behind c.same m.words (m.buffer p) does t.told)) i;
        buffer = hold m.buffer p (buffered (m.buffer p) does (flag_first p (m.own p) plainly i));
      }
  moved_first m (buffers.Drains p) = drained_first m p (m.buffer p)

  arrived_first : (moves : List buffers.Move)
      → first_machine (buffers.arrived B (plain_both plain) sb moves) ≡ buffers.arrived c plain s moves
  arrived_first [] = refl
  arrived_first (m ∷ earlier) =
      moved_first (buffers.arrived B (plain_both plain) sb earlier) m
      ∙ ap (λ (z : Machine W S). buffers.moved c plain z m) (arrived_first earlier)

  pub order_first : (moves : List buffers.Move)
      → order B (plain_both plain) (waits_both waits) sb moves ≡ order c plain waits s moves
  order_first [] = refl
  order_first (buffers.Acts t plainly ∷ earlier) =
      let p : ℕ = t.thread in
      let m : Machine W (S × X) = buffers.arrived B (plain_both plain) sb earlier in
      let does : Operation W = c.next p (m.own p).0 in
      let acts : Order W → Machine W S → Order W = λ o z.
      acts_in o t (c.next p (z.own p)) (is_plain plain p (z.own p) plainly)
      (waits p (z.own p) (found_behind c.same z.words (z.buffer p) (c.next p (z.own p)) t.told)) in
      ap (λ (f : Bool). acts_in (order B (plain_both plain) (waits_both waits) sb earlier) t does f
      (waits p (m.own p).0 (found_behind c.same m.words (m.buffer p) does t.told)))
      (flag_first p (m.own p) plainly)
      ∙ ap (acts (order B (plain_both plain) (waits_both waits) sb earlier)) (arrived_first earlier)
      ∙ ap (λ (o : Order W). acts o (buffers.arrived c plain s earlier)) (order_first earlier)
  order_first (buffers.Drains p ∷ earlier) =
      ap (λ (z : Machine W S). drains_in (order B (plain_both plain) (waits_both waits) sb earlier) p (z.buffer p))
      (arrived_first earlier)
      ∙ ap (λ (o : Order W). drains_in o p ((buffers.arrived c plain s earlier).buffer p)) (order_first earlier)

  -- ---- driven by threads

  abbrev pub first_crew : Crew W (S × X) → Crew W S
  first_crew m = record { words = m.words; own = firsts m.own; buffer = m.buffer; drives = m.drives }

  crew_drained : (m : Crew W (S × X)) (t : ℕ) (l : List (Tagged W))
      → first_crew (driven.drained_by B m t l) ≡ driven.drained_by c (first_crew m) t l
  crew_drained m t l = grind arith

  crew_moved : (m : Crew W (S × X)) (move : Move)
      → first_crew (driven.moved B (plain_both plain) m move) ≡ driven.moved c plain (first_crew m) move
  crew_moved m (Acts t turn plainly) =
      let p : ℕ = turn.thread in
      let does : Operation W = c.next p (m.own p).0 in
      λ i. record {
        words = at_once c.same m.words does (flag_first p (m.own p) plainly i);
        own = hold_first m.own p
            (B.after p (m.own p) (found_behind c.same m.words (stores (m.buffer t)) does turn.told)) i;
        buffer = hold m.buffer t (m.buffer t ++ tagged p (waits_more p does (flag_first p (m.own p) plainly i)));
        drives = m.drives;
      }
  crew_moved m (Drains t) = crew_drained m t (m.buffer t)
  crew_moved m _ = refl

  pub crew_first : (moves : List Move)
      → first_crew (driven.reached B (plain_both plain) sb moves) ≡ driven.reached c plain s moves
  crew_first [] = refl
  crew_first (m ∷ earlier) =
      crew_moved (driven.reached B (plain_both plain) sb earlier) m
      ∙ ap (λ (z : Crew W S). driven.moved c plain z m) (crew_first earlier)

  may_first : (m : Crew W (S × X)) (move : Move)
      → driven.May B (plain_both plain) (fresh_both fresh) m move → driven.May c plain fresh (first_crew m) move
  may_first m (TakesUp t p) may = record { free = may.free; out = may.out; ready = may.ready }
  may_first m (Leaves t) may = tt
  may_first m (Acts t turn plainly) may =
      let p : ℕ = turn.thread in (
        may.0,
        subst (λ (f : Bool). MayAct (stores (m.buffer t)) (c.next p (m.own p).0) f)
            (flag_first p (m.own p) plainly) may.1,
      )
  may_first m (Drains t) may = may

  pub run_first : (moves : List Move)
      → IsDrivenRun B (plain_both plain) (fresh_both fresh) sb moves → IsDrivenRun c plain fresh s moves
  run_first [] run = tt
  run_first (m ∷ earlier) run = (
    run_first earlier run.0,
    subst (λ (z : Crew W S). driven.May c plain fresh z m) (crew_first earlier)
        (may_first (driven.reached B (plain_both plain) sb earlier) m run.1),
  )

  pub done_first : (moves : List Move) → done B (plain_both plain) sb moves ≡ done c plain s moves
  done_first [] = refl
  done_first (Acts t turn plainly ∷ earlier) =
      let p : ℕ = turn.thread in
      let m : Crew W (S × X) = driven.reached B (plain_both plain) sb earlier in
      let does : Operation W = c.next p (m.own p).0 in
      let acts : List (Effect W) → Crew W S → List (Effect W) = λ l z.
      acts_with p (found_behind c.same z.words (stores (z.buffer t)) (c.next p (z.own p)) turn.told)
      (c.next p (z.own p)) (is_plain plain p (z.own p) plainly) ++ l in
      let finds : ℕ = found_behind c.same m.words (stores (m.buffer t)) does turn.told in
      ap (λ (f : Bool). acts_with p finds does f ++ done B (plain_both plain) sb earlier)
      (flag_first p (m.own p) plainly)
      ∙ ap (acts (done B (plain_both plain) sb earlier)) (crew_first earlier)
      ∙ ap (λ (l : List (Effect W)). acts l (driven.reached c plain s earlier)) (done_first earlier)
  done_first (Drains t ∷ earlier) =
      ap (λ (z : Crew W S). drains_with (z.buffer t) ++ done B (plain_both plain) sb earlier) (crew_first earlier)
      ∙ ap (λ (l : List (Effect W)). drains_with ((driven.reached c plain s earlier).buffer t) ++ l)
      (done_first earlier)
  done_first (_ ∷ earlier) = done_first earlier

  pub by_passes_first : (moves : List Move) → by_passes B (plain_both plain) sb moves ≡ by_passes c plain s moves
  by_passes_first [] = refl
  by_passes_first (Acts t turn plainly ∷ earlier) =
      ap (λ (l : List buffers.Move). buffers.Acts turn plainly ∷ l) (by_passes_first earlier)
  by_passes_first (Drains t ∷ earlier) =
      ap (λ (z : Crew W S). drains_of (z.buffer t) (by_passes B (plain_both plain) sb earlier)) (crew_first earlier)
      ∙ ap (λ (l : List buffers.Move). drains_of ((driven.reached c plain s earlier).buffer t) l)
      (by_passes_first earlier)
  by_passes_first (_ ∷ earlier) = by_passes_first earlier

  stays_both : (p : ℕ) (own : S × X) (does : Operation W)
      → StaysFresh c fresh p own.0 does → StaysFresh B (fresh_both fresh) p own does
  stays_both p own does stays = grind arith

  pub fresh_stays : AreFresh c fresh → AreFresh B (fresh_both fresh)
  fresh_stays are p own it = stays_both p own (c.next p own.0) (are p own.0 it)
