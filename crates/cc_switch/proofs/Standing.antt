-- The joined history of a row, as a pass has seen it.
use Rattle.std.proofs.Common.{◌≡◌, inl, ℕ, zero, suc, ◌+◌, ◌<◌, ◌≤◌, List, [], ◌∷◌, length, refl, sym, ap, ◌∙◌}
use Rattle.std.proofs.Common.{arith}
use Rattle.cc_model.specs.Record.{Record}
use Rattle.cc_joined.specs.Joined.{AreLegalShut, AreShutFor, GoesInOrder, count_of}
use Rattle.cc_joined.proofs.Joined.{joined_sends, joined_takes}
use Rattle.cc_queue.specs.Met.{HasMet}
use Rattle.cc_queue.specs.Headline.{history}
use Rattle.cc_steps.specs.Noted.{Noted}
use Rattle.cc_steps.specs.Walk.{IsOf}
use Rattle.cc_steps.specs.Names.{Setting}
use Rattle.cc_steps.specs.Topic.{Topic}
use Rattle.cc_switch.specs.Position.{IsSpot, RowWalk}
use Rattle.cc_switch.specs.Links.{topic_of, total_of, base_at, AreShut, AreEnded, done_by}
use Rattle.cc_switch.specs.Stands.{shut_records, ended_records, SendsStand, TakesStand}
use Rattle.cc_switch.specs.declared.links.Link.{Link}

shut_are : (first : Topic) (links : List Link) (k : ℕ) → AreShut first links → AreLegalShut (shut_records links k)
shut_are first links zero are = tt
shut_are first [] (suc k) are = tt
shut_are first (l ∷ links) (suc k) are = (
  (l.shut.setting.config, are.0.legal),
  are.0.shut,
  shut_are (topic_of l.next) links k are.1,
)

shut_count : (links : List Link) (k : ℕ) → count_of (shut_records links k) ≡ base_at links k
shut_count links zero = refl
shut_count [] (suc k) = refl
shut_count (l ∷ links) (suc k) = ap (λ (n : ℕ). total_of l.shut + n) (shut_count links k)

ended_are : (g : ℕ) (first : Topic) (links : List Link) (ended : List Noted) (k : ℕ) → AreEnded g first links ended
    → AreShutFor g (ended_records ended k)
ended_are g first links ended zero are = tt
ended_are g first links [] (suc k) are = tt
ended_are g first [] (n ∷ ended) (suc k) are = absurd are
ended_are g first (l ∷ links) (n ∷ ended) (suc k) are = (
  record {
    config = n.setting.config;
    legal = are.0.shut.legal;
    has = are.0.has;
  },
  are.0.shut.shut,
  ended_are g (topic_of l.next) links ended k are.2,
)

ended_count : (g : ℕ) (first : Topic) (links : List Link) (ended : List Noted) (k : ℕ) → k ≤ length ended
    → AreEnded g first links ended → count_of (ended_records ended k) ≡ base_at links k
ended_count g first links ended zero few are = refl
ended_count g first links [] (suc k) few are = absurd (omega (arith, few))
ended_count g first [] (n ∷ ended) (suc k) few are = absurd are
ended_count g first (l ∷ links) (n ∷ ended) (suc k) few are = let rest = ended_count g (topic_of l.next) links ended k
    (omega (arith, few)) are.2 in let one = are.1 in omega (arith, rest, one)

in_order : (g : ℕ) (first : Topic) (links : List Link) (ended : List Noted) (k : ℕ) (last : Record)
    → AreEnded g first links ended
    → GoesInOrder g (ended_records ended k) last
in_order g first links ended zero last are = tt
in_order g first links [] (suc k) last are = tt
in_order g first [] (n ∷ ended) (suc k) last are = absurd are
in_order g first (l ∷ links) (n ∷ ended) (suc k) last are =
    inl (are.0.all, in_order g (topic_of l.next) links ended k last are.2)

pub sends_stand : (w : RowWalk) → IsSpot w.spot → HasMet w.pass w.pass → SendsStand w
sends_stand w is met =
    let links = w.spot.seen.links in
    let count = shut_count links w.spot.number in let b = is.base_is in
    record {
      base = b ∙ sym count;
      legal = λ wide few. joined_sends wide w.pass.setting.config (shut_records links w.spot.number) (history w.pass)
          (shut_are w.spot.row.key links w.spot.number is.shut) met.stands.legal (omega (arith, few, count, b));
    }

pub takes_stand : (w : RowWalk) → IsSpot w.spot → w.spot.number ≤ length (done_by w.spot.seen.ended w.group)
    → w.group < w.spot.queue.setting.config.groups → IsOf w.spot.queue w.pass → HasMet w.pass w.pass → TakesStand w
takes_stand w is few has of met =
    let g = w.group in
    let setting = ap (λ (c : Setting). c.config.groups) of.1 in
    let inside : g < w.pass.setting.config.groups = omega (arith, has, setting) in
    let links = w.spot.seen.links in let ended = done_by w.spot.seen.ended g in let first = w.spot.row.key in
    let takes = joined_takes g (ended_records ended w.spot.number) (history w.pass)
    (ended_are g first links ended w.spot.number (is.ended g))
    (record { config = w.pass.setting.config; legal = met.stands.legal; has = inside })
    (in_order g first links ended w.spot.number (history w.pass) (is.ended g)) in
    record {
      base = is.base_is ∙ sym (ended_count g first links ended w.spot.number few (is.ended g));
      legal = takes.0;
      fifo = takes.1;
    }
