-- Refused claims: for each kind of mistake a small case, and a claim about it that the clause doesn't admit.
use Rattle.std.specs.Prelude.{◌≡◌, [], ◌∷◌}
use Rattle.cc_queue.specs.Names.{Answer, Call, Item, Job, Kind, Move, Phase, TakeAnswer}
use Rattle.cc_runs.specs.Codes.{behind}
use Rattle.cc_steps.specs.Noted.{Noted}
use Rattle.cc_steps.specs.Walk.{Walk}
use Rattle.cc_queue.specs.Calls.{Completed}
use Rattle.cc_queue.specs.Met.{HaveMet, HaveSeenOne}
use Rattle.cc_queue.specs.Noted.{HasHeeded}

-- a claim that doesn't hold
abbrev pub Refused : Type 0 → Type 0
Refused claim = claim → ⊥

-- a pass has seen all that another has, and one move more
abbrev pub SeesMore : Walk → Walk → Type 0
SeesMore v w = (m : Move) × (w.seen ≡ m ∷ v.seen)

-- a note has one move more than a pass has seen
abbrev pub NotesMore : Noted → Walk → Type 0
NotesMore n w = (m : Move) × (n.seen ≡ m ∷ w.seen)

-- the pass has read its state once more, and is the same but for that
abbrev pub has_read : Walk → Walk
has_read v = record v { did = Kind.ReadState ∷ v.did }

pub record RefusedClaims : Type 0 where
  -- behind the only word of a body a combiner writes a further one
  pub a_word_past_the_body : (job : Job) (item : Item) → Refused (behind 0 0 (Phase.WriteAnswerBody job item 1) (Phase.MarkDone job) ≡ Phase.WriteAnswerBody job item 1)
  -- a pass that is given up reads its state first
  pub abandon_reads_first : (v : Walk) → Refused (has_read v ≡ v)
  -- the last of some passes didn't meet the others
  pub last_one_left_out : (v w : Walk) → SeesMore v w → Refused (HaveSeenOne [] (v ∷ w ∷ []) [])
  -- of two passes only one has seen what the other had seen
  pub meets_one_way : (old old' new new' : Walk) → SeesMore new new' → Refused (HaveMet old old' new new')
  -- a pass has heeded a note of which it hasn't seen all
  pub note_left_out : (n : Noted) (w : Walk) → NotesMore n w → Refused (HasHeeded n w)
  -- a take was answered that was never made
  pub take_left_out : (v : Walk) → Refused (Completed v Call.Take (Answer.Take TakeAnswer.Empty) v)
