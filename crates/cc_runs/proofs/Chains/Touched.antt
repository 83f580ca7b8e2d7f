-- Which node of a chain a step touches.
use Rattle.std.proofs.Common.{◌≡◌, ◌⊎◌, ℕ, refl, ap, sym, ◌∙◌, inl, inr, arith}
use Rattle.cc_runs.specs.Names.{Setting, Chain, NodeField, Word, Job, Counting, Sending, Taking, Phase}
use Rattle.cc_runs.specs.State.{word_of}
use Rattle.cc_runs.specs.CountLines as count_side
use Rattle.cc_runs.specs.SendLines as send_side
use Rattle.cc_runs.specs.TakeLines as take_side
use Rattle.cc_runs.specs.Lines.{operation, group_of}
use Rattle.cc_runs.proofs.Chains.View.{post_of}

-- node i of chain y is touched from chain x: the pass's own node, or the one that it serves
pub record Touches (x y : Chain) (own i : ℕ) (at : Phase) : Type 0 where
  pub chain : y ≡ x
  pub which : (i ≡ own) ⊎ (((post_of x own at).rank ≡ 5) × (i ≡ (post_of x own at).target))

module _ (c : Setting) (x y : Chain) (own i : ℕ) (f : NodeField) where
  own_node : (at : Phase) (g : NodeField) → Word.Node x own g ≡ Word.Node y i f → Touches x y own i at
  own_node at g e = record { chain = let same : x ≡ y = cc in sym same; which = inl (let same : own ≡ i = cc in sym same) }

  its_node : (at : Phase) (k : ℕ) (g : NodeField) → (post_of x own at).rank ≡ 5 → (post_of x own at).target ≡ k → Word.Node x k g ≡ Word.Node y i f → Touches x y own i at
  its_node at k g five target e = record { chain = let same : x ≡ y = cc in sym same; which = inr (five, (let same : k ≡ i = cc in sym same) ∙ sym target) }

  -- the senders' service reads words of the node that it serves
  sent_node : (at : Phase) (k : ℕ) (g : NodeField) → x ≡ Chain.Send → (post_of x own at).rank ≡ 5 → (post_of x own at).target ≡ k → Word.Node Chain.Send k g ≡ Word.Node y i f → Touches x y own i at
  sent_node at k g sends five target e = its_node at k g five target (ap (λ (z : Chain). Word.Node z k g) sends ∙ e)

  count_touches : (job : Job) (service : Counting) → x ≡ Chain.Send → word_of (count_side.operation job.round.at service) ≡ Word.Node y i f → Touches x y own i (Phase.Counting job service)
  count_touches job Counting.ReadTag sends e = sent_node (Phase.Counting job Counting.ReadTag) job.round.at _ sends refl refl e
  count_touches job (Counting.ReadBody tag i) sends e = sent_node (Phase.Counting job (Counting.ReadBody tag i)) job.round.at _ sends refl refl e
  count_touches job service sends e = absurd (cc)

  send_touches : (job : Job) (service : Sending) → x ≡ Chain.Send → word_of (send_side.operation c.config job.round.at service) ≡ Word.Node y i f → Touches x y own i (Phase.Sending job service)
  send_touches job Sending.ReadTag sends e = sent_node (Phase.Sending job Sending.ReadTag) job.round.at _ sends refl refl e
  send_touches job (Sending.ReadBody request i) sends e = sent_node (Phase.Sending job (Sending.ReadBody request i)) job.round.at _ sends refl refl e
  send_touches job service sends e = absurd (cc)

  take_touches : (g : ℕ) (service : Taking) → word_of (take_side.operation g service) ≡ Word.Node y i f → ⊥
  take_touches g service e = grind arith

  pub touches : (at : Phase) → ((job : Job) (service : Counting) → at ≡ Phase.Counting job service → x ≡ Chain.Send) → ((job : Job) (service : Sending) → at ≡ Phase.Sending job service → x ≡ Chain.Send) →
      word_of (operation c x own at) ≡ Word.Node y i f → Touches x y own i at
  touches at counts sends e = grind (
    arith,
    own_node,
    own_node Phase.ReadState,
    its_node,
    count_touches,
    send_touches,
    take_touches (group_of x),
    own_node Phase.ReadAnswer,
  )
