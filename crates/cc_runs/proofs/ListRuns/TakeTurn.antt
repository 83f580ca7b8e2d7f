-- A step of the service of a take of a group keeps the list's invariant, and decides a legal answer.
use Rattle.std.proofs.Common.{◌≡◌, ◌≢◌, ℕ, zero, suc, ◌+◌, ◌-◌, ◌<◌, ◌≤◌, List, [], ◌∷◌, length, Some, None, refl, sym, ap, ◌∙◌, subst, arith, length-append}
use Rattle.std.proofs.lemmas.List.{length-set}
use Rattle.std.specs.List.{slice_get}
use Rattle.cc_model.specs.Record.{Record}
use Rattle.cc_model.specs.Items.{accepted, is_shut, handed, handed_item}
use Rattle.cc_model.specs.Legal.{TakeSideAnswer}
use Rattle.cc_runs.specs.Names.{Config, Answer, TakeAnswer, Chain, ItemField, Object, Word, Parcel, Job, Phase, Taking}
use Rattle.cc_runs.specs.Words.{groups, put}
use Rattle.cc_runs.specs.State.{noted, word_of, stored}
use Rattle.cc_runs.specs.Codes.{item_in, further_words, word, no_words, with_read, behind, parcel as parcel_of}
use Rattle.cc_runs.proofs.Bodies.{few_further}
use Rattle.cc_runs.proofs.ReadWords.{one_item}
use Rattle.cc_runs.proofs.Chains.View.{words_of}
use Rattle.cc_runs.specs.TakeLines.{operation, goes, decides}
use Rattle.cc_runs.proofs.Chains.Facts.{noted_none}
use Rattle.cc_runs.proofs.LinkedList.Queue.{Enq, Queue, Ghosts}
use Rattle.cc_runs.proofs.LinkedList.Invariant.{LInv}
use Rattle.cc_runs.proofs.LinkedList.Grow as grow
use Rattle.cc_runs.proofs.LinkedList.Grow.{Kept, Gives}
use Rattle.cc_runs.proofs.LinkedList.Decide as decide
use Rattle.cc_runs.proofs.LinkedList.Limits as limits
use Rattle.cc_runs.proofs.ListRuns.View.{Duty, Regs, long_of, none, regs_in, regs_at, queue_from}
use Rattle.cc_runs.proofs.ListRuns.TakeKeeps as keeps
use Rattle.cc_runs.proofs.ListRuns.Decided.{told_take, d_handed, d_others, d_decided}
use Rattle.cc_runs.proofs.ListRuns.Ties.{Ties, Holds, ghosts, ghosts_same, further, body_at, word_at, shut_number, IsTaking, IsNextTake, ties_same, shut_true}

-- the result of such a step, if the services' registers are these then
pub record Turn (c : Config) (mem : Word → ℕ) (d : Duty) (e : Enq) (y : ℕ) (r : ℕ → Regs) (h : Record) (nodes : List ℕ) (kept : Kept) (at : Phase) : Type 0 where
  pub list : Holds c h nodes kept (queue_from mem d e r)
  pub next_call : IsTaking at → IsNextTake h y (d.d_call y)
  pub ties : Ties c h nodes kept

-- a step of group y, whose service alone has other registers then
module _ (c : Config) (mem : Word → ℕ) (d : Duty) (e : Enq) (h : Record) (nodes : List ℕ) (kept : Kept) (ties : Ties c h nodes kept) (y : ℕ) (inside : y < groups c) (next : IsNextTake h y (d.d_call y)) (job : Job)
    (r r' : ℕ → Regs) (same : (q : ℕ) → q ≢ y → r' q ≡ r q) (has : Holds c h nodes kept (queue_from mem d e r)) where
  below : y < further c + 1
  below = omega (arith, inside, ties.some)

  side_in : y < length h.takes
  side_in = omega (arith, inside, ties.many)

  abbrev many : ℕ
  many = length (accepted h)

  abbrev Before : Queue
  Before = queue_from mem d e r

  abbrev After : (Word → ℕ) → Queue
  After m = queue_from m d e r'

  abbrev From : Taking → Type 0
  From service = r y ≡ regs_in service

  abbrev To : Taking → Type 0
  To service = r' y ≡ regs_in service

  abbrev Over : Type 0
  Over = r' y ≡ none

  stage_is : (service : Taking) → From service → (r y).stage ≡ (regs_in service).stage
  stage_is service a = ap (λ (z : Regs). z.stage) a

  abbrev g : Ghosts
  g = ghosts c h nodes kept

  abbrev Keeps : (Word → ℕ) → Type 0
  Keeps m = Holds c h nodes kept (After m)

  -- on in the service, with no ghost moved
  on : (m : Word → ℕ) (there : Taking) → Keeps m → Turn c m d e y r' (noted (Chain.Take y) h None None) nodes kept (Phase.Taking job there)
  on m there inv = subst (λ (z : Record). Turn c m d e y r' z nodes kept (Phase.Taking job there)) (sym (noted_none (Chain.Take y) h)) (record { list = inv; next_call = λ u. next; ties = ties })

  -- an answer that hands nothing out
  answered : (told : Answer) → Keeps mem
      → handed_item told ≡ [] → TakeSideAnswer (accepted h) (is_shut h) (length (handed h y)) (d.d_call y).known told → Turn c mem d e y r' (told_take h y told) nodes kept (Phase.WriteAnswer job told)
  answered told inv none_handed fits = record {
    list = subst (λ (z : Ghosts). LInv c.capacity c.life (further c + 1) (After mem) z) (sym (ghosts_same c h (told_take h y told) nodes kept refl refl all_same)) inv;
    next_call = λ no. absurd no;
    ties = ties_same c h (told_take h y told) nodes kept ties (length-set h.takes y _) refl (d_decided c h ties.legal y side_in (d.d_call y) told next fits);
  }
    where
      no_more : length (handed_item told) ≡ 0 → length (handed h y) + length (handed_item told) ≡ length (handed h y)
      no_more z = omega (arith, z)

      mine : length (handed (told_take h y told) y) ≡ length (handed h y)
      mine = ap length (d_handed c h ties.legal y side_in (d.d_call y) told next) ∙ length-append (handed h y) (handed_item told) ∙ no_more (ap length none_handed)

      all_same : (x : ℕ) → length (handed (told_take h y told) x) ≡ length (handed h x)
      all_same x = grind (arith, mine, d_others c h ties.legal y side_in (d.d_call y) told next x)

  read_head : From Taking.ReadHead → To (Taking.ReadTaken (mem (Word.Object (Object.Head y)) - 1)) → Turn c mem d e y r' (noted (Chain.Take y) h None None) nodes kept (Phase.Taking job (Taking.ReadTaken (mem (Word.Object (Object.Head y)) - 1)))
  read_head a b =
      let link : (0 < mem (Word.Object (Object.Head y))) × (mem (Word.Object (Object.Head y)) ≤ c.capacity + 1) = limits.head_link c.capacity c.life (further c + 1) Before g has y below (stage_is Taking.ReadHead a) in
      on mem (Taking.ReadTaken (mem (Word.Object (Object.Head y)) - 1)) (keeps.read_head mem d e c (further c + 1) g y below r r' same link.0 a has b)

  read_next : (dummy taken found : ℕ) → mem (Word.Item dummy ItemField.Next) ≡ found → From (Taking.ReadDummyNext dummy taken) → r' y ≡ regs_at (goes job (Taking.ReadDummyNext dummy taken) found)
      → Turn c mem d e y r' (noted (Chain.Take y) h None (decides (Taking.ReadDummyNext dummy taken) found)) nodes kept (goes job (Taking.ReadDummyNext dummy taken) found)
  read_next dummy taken zero is a b =
      let null : mem (Word.Item (r y).dummy ItemField.Next) ≡ 0 = ap (λ (z : Regs). mem (Word.Item z.dummy ItemField.Next)) a ∙ is in
      let known : (d.d_call y).known ≤ g.handed y = decide.empty c.capacity c.life (further c + 1) Before g has y below (stage_is (Taking.ReadDummyNext dummy taken) a) null in
      answered (Answer.Take TakeAnswer.Empty) (keeps.read_null mem d e c (further c + 1) g y below r r' same dummy taken a has b) refl (omega (arith, known))
  read_next dummy taken (suc at) is a b = on mem (Taking.ReadItemTag dummy taken at) (keeps.read_link mem d e c (further c + 1) g y below r r' same dummy taken at is a has b)

  read_tag : (dummy taken at found : ℕ) → mem (Word.Item at ItemField.Tag) ≡ found → From (Taking.ReadItemTag dummy taken at) → r' y ≡ regs_at (goes job (Taking.ReadItemTag dummy taken at) found)
      → Turn c mem d e y r' (noted (Chain.Take y) h None (decides (Taking.ReadItemTag dummy taken at) found)) nodes kept (goes job (Taking.ReadItemTag dummy taken at) found)
  read_tag dummy taken at zero is a b =
      let zero_is : (x : ℕ) → x + 1 ≡ (r y).after → mem (Word.Item x ItemField.Tag) ≡ 0 = λ x same. let here = ap (λ (z : Regs). z.after) a in ap (λ (k : ℕ). mem (Word.Item k ItemField.Tag)) (omega (arith, same, here)) ∙ is in
      let seen : (r y).seen ≡ taken = ap (λ (z : Regs). z.seen) a in
      let known : ((r y).seen ≡ g.accepted) × (g.handed y ≡ g.accepted) × (g.shut ≡ 1) = decide.ended c.capacity c.life (further c + 1) Before g has y below (stage_is (Taking.ReadItemTag dummy taken at) a) zero_is in
      answered (Answer.Take (TakeAnswer.Ended taken)) (keeps.read_mark mem d e c (further c + 1) g y below r r' same dummy taken at a has b) refl
      (shut_true (is_shut h) (known.2), sym seen ∙ known.0 ∙ sym known.1, known.1)
  read_tag dummy taken at (suc tag) is a b =
      on mem (Taking.ReadItemBody dummy at (parcel_of taken (suc tag) no_words) 0)
      (keeps.read_tag mem d e c (further c + 1) g y below r r' same dummy taken at tag refl is a has b)

  -- ---- the add to passed of the old dummy

  module _ (dummy : ℕ) (parcel : Parcel) (from : From (Taking.AddPassed dummy parcel)) (to : Over) where
    abbrev a : Answer
    a = Answer.Take (TakeAnswer.Got (item_in parcel))

    stage : (r y).stage ≡ 7
    stage = stage_is (Taking.AddPassed dummy parcel) from

    more : g.handed y < g.accepted
    more = decide.got_more c.capacity c.life (further c + 1) Before g has y below stage

    place_is : parcel.place ≡ g.handed y
    place_is = sym (ap (λ (z : Regs). z.seen) from) ∙ decide.got_place c.capacity c.life (further c + 1) Before g has y below stage

    long_is : long_of parcel.tag ≡ g.long (g.handed y)
    long_is = sym (ap (λ (z : Regs). z.got) from) ∙ decide.got_long c.capacity c.life (further c + 1) Before g has y below stage

    word_is : (j : ℕ) → j < long_of parcel.tag → words_of parcel.tag (word parcel.body) j ≡ g.items (g.handed y) j
    word_is j l = sym (ap (λ (z : Regs). z.word j) from) ∙ decide.got_word c.capacity c.life (further c + 1) Before g has y below stage j (omega (arith, l, long_is))

    item_is : slice_get (accepted h) (length (handed h y)) ≡ Some (item_in parcel)
    item_is =
        ties.items_are (g.handed y) more
        ∙ sym (ap Some (one_item parcel (body_at (g.items (g.handed y))) place_is (word_is 0 (omega arith)) (λ j low. word_is (suc j) (omega (arith, low)) ∙ sym (word_at (g.items (g.handed y)) j (omega (arith, low, few_further parcel.tag))))))

    u : Gives (further c + 1) g (ghosts c (told_take h y a) nodes kept) y
    u =
        grow.gives (further c) long_of many (shut_number (is_shut h)) (λ x. length (handed h x)) nodes kept (λ x. length (handed (told_take h y a) x)) y below
        (omega (arith, ap length (d_handed c h ties.legal y side_in (d.d_call y) a next), length-append (handed h y) (item_in parcel ∷ []))) (λ x ne. ap length (d_others c h ties.legal y side_in (d.d_call y) a next x ne))

    add_passed : Turn c (put mem (Word.Item dummy ItemField.Passed) (mem (Word.Item dummy ItemField.Passed) + 1)) d e y r' (told_take h y a) nodes kept (Phase.WriteAnswer job a)
    add_passed = record {
      list = keeps.add_passed mem d e c (further c + 1) g y below r r' same (ghosts c (told_take h y a) nodes kept) dummy parcel u from has to;
      next_call = λ no. absurd no;
      ties = ties_same c h (told_take h y a) nodes kept ties (length-set h.takes y _) refl (d_decided c h ties.legal y side_in (d.d_call y) a next (item_is, place_is));
    }

  -- ---- the whole service

  pub take_turn : (service : Taking) (found : ℕ) → mem (word_of (operation y service)) ≡ found → From service → r' y ≡ regs_at (goes job service found)
      → Turn c (stored mem (operation y service)) d e y r' (noted (Chain.Take y) h None (decides service found)) nodes kept (goes job service found)
  take_turn Taking.ReadHead found is a b =
      subst (λ (k : ℕ). Turn c mem d e y r' (noted (Chain.Take y) h None None) nodes kept (Phase.Taking job (Taking.ReadTaken (k - 1)))) is (read_head a (b ∙ sym (ap (λ (k : ℕ). regs_in (Taking.ReadTaken (k - 1))) is)))
  take_turn (Taking.ReadTaken dummy) found is a b =
      subst (λ (k : ℕ). Turn c mem d e y r' (noted (Chain.Take y) h None None) nodes kept (Phase.Taking job (Taking.ReadDummyNext dummy k))) is
      (on mem (Taking.ReadDummyNext dummy (mem (Word.Object (Object.Taken y)))) (keeps.read_taken mem d e c (further c + 1) g y below r r' same dummy a has (b ∙ sym (ap (λ (k : ℕ). regs_in (Taking.ReadDummyNext dummy k)) is))))
  take_turn (Taking.ReadDummyNext dummy taken) found is a b = read_next dummy taken found is a b
  take_turn (Taking.ReadItemTag dummy taken at) found is a b = read_tag dummy taken at found is a b
  take_turn (Taking.ReadItemBody dummy at p j) found is a b =
      subst (λ (k : ℕ). Turn c mem d e y r' (noted (Chain.Take y) h None None) nodes kept (Phase.Taking job (behind (further_words p.tag) j (Taking.ReadItemBody dummy at (with_read p j k) (j + 1)) (Taking.WriteHead dummy at (with_read p j k))))) is
      (on mem _ (keeps.read_body mem d e c (further c + 1) g y below r r' same dummy at p j refl a has
      (b ∙ sym (ap (λ (k : ℕ). regs_in (behind (further_words p.tag) j (Taking.ReadItemBody dummy at (with_read p j k) (j + 1)) (Taking.WriteHead dummy at (with_read p j k)))) is))))
  take_turn (Taking.WriteHead dummy at parcel) found is a b = on _ (Taking.WriteTaken dummy parcel) (keeps.write_head mem d e c (further c + 1) g y below r r' same dummy at parcel a has b)
  take_turn (Taking.WriteTaken dummy parcel) found is a b = on _ (Taking.AddPassed dummy parcel) (keeps.write_taken mem d e c (further c + 1) g y below r r' same dummy parcel a has b)
  take_turn (Taking.AddPassed dummy parcel) found is a b = add_passed dummy parcel a b
