-- A run that has ended is clean, and reports how many items passed.
use Rattle.std.proofs.Common.{◌≡◌, ℕ, ◌+◌, ◌*◌, ◌<◌, ◌≤◌, List, [], ◌∷◌, ◌++◌, length, map, Some, refl, sym, ap, ◌∙◌, subst, arith, length-append}
use Rattle.std.specs.List.{All}
use Rattle.std.specs.List.Sorted.{IsPermutation}
use Rattle.std.proofs.lemmas.List.Sorted.{IsPermutation-refl, length_permutation}
use Rattle.cc_model.specs.Record.{Record}
use Rattle.cc_model.specs.Legal.{Legal}
use Rattle.cc_drive.specs.Names.{Config, Move, Setting, Served, DriveConfig, Ran}
use Rattle.cc_runs.specs.Run.{history_of}
use Rattle.cc_steps.specs.Topic.{Topic}
use Rattle.cc_steps.specs.Walk.{Walk, IsOf, fresh}
use Rattle.cc_audit.specs.Receipts.{sends_of, takes_of, total_of}
use Rattle.cc_queue.specs.Headline.{name, history}
use Rattle.cc_queue.specs.Met.{AreOf, HasMet, HaveSeenOne}
use Rattle.cc_queue.specs.Receipts.{AreAll, AreInRow, Live, in_group, receipts_by, receipts_told, seen_by, sent, got, walk_at}
use Rattle.cc_queue.proofs.Held.{sends_held, takes_held, only_group, seen_is}
use Rattle.cc_queue.proofs.Lasts.{all_live, group_of_map, live_row, live_told, live_walks}
use Rattle.cc_runs.specs.Words.{groups}
use Rattle.cc_drive.specs.Config.{queue_of}
use Rattle.cc_drive.specs.Back.{IsBack, SenderIsBack, ReceiverIsBack}
use Rattle.cc_drive.specs.Ran.{HasRun, total_in}
use Rattle.cc_drive.specs.Row.{InRow, Pairs}
use Rattle.cc_drive.proofs.Rows.{row_push}
use Rattle.cc_drive.proofs.Totals.{total_is, taken_is_sent}
use Rattle.cc_drive.proofs.Pairs.{pairs_last, all_split}
use Rattle.cc_drive.proofs.Ended.{row_weaker, row_all, row_met, back_met, receiver_met, receipts_met, pairs_length, are_in_row, no_more_receipts, all_items, closer_back, closer_sent_none, closer_told}

-- what the audit of an end needs, of the passes that have met
pub record Settled (z : Topic) (c : DriveConfig) (r : Ran) (senders receivers : List Walk) : Type 0 where
  pub all : AreAll z (live_row senders receivers) senders receivers []
  pub one : HaveSeenOne senders receivers []
  pub group : 1 ≤ groups z.setting.config
  pub sends : IsPermutation (receipts_told sent (map Live senders)) r.sends.items
  pub takes : IsPermutation (receipts_told got (in_group z.setting.config 1 (map Live receivers))) r.takes.items
  pub total : total_of (seen_by (map walk_at (map Live senders))) ≡ Some (total_in r.closed)
  pub even : length r.takes.items ≡ length r.sends.items
  pub count : length r.sends.items ≡ c.senders * c.items

pub same_items : {X : Type 0} (xs ys : List X) → xs ≡ ys → IsPermutation xs ys
same_items xs ys same = subst (IsPermutation xs) same (IsPermutation-refl xs)

-- the history that a pass of the queue has seen
seen_of : (z : Topic) (n : ℕ) (w : Walk) (seen : List Move) → IsBack z n w → w.seen ≡ seen → history w ≡ history_of z.setting seen
seen_of z n w seen b is = λ i. history_of (b.here.1 i) (is i)

valid : (z : Topic) (n : ℕ) (w : Walk) (seen : List Move) → IsBack z n w → w.seen ≡ seen → Legal z.setting.config (history_of z.setting seen)
valid z n w seen b is = subst (λ (y : Setting × Record). Legal y.0.config y.1) (λ i. (b.here.1 i, seen_of z n w seen b is i)) b.stands.legal

-- as many were taken as were sent
even_so : (z : Topic) (n : ℕ) (receivers : List Walk) (seen : List Move) → z.setting.config.groups ≡ 1 → 0 < length receivers → InRow (ReceiverIsBack z) n receivers → All (λ w. w.seen ≡ seen) receivers → length (takes_of (history_of z.setting seen) 0) ≡ length (sends_of (history_of z.setting seen))
even_so z n [] seen group some row one = absurd (omega (arith, some))
even_so z n (w ∷ ws) seen group some row one =
    let is = one 0 w (omega arith) in
    subst (λ (h : Record). length (takes_of h 0) ≡ length (sends_of h)) (seen_of z n w seen row.0.back is) (taken_is_sent w.setting.config (history w) (name w) row.0.total (ap (λ (s : Setting). s.config.groups) row.0.back.here.1 ∙ group) row.0.back.stands.legal row.0.ended)

pub settled : (z : Topic) (c : DriveConfig) (r : Ran) (all senders receivers : List Walk) → z.setting ≡ record { served = Served.List; config = queue_of c } → 0 < c.receivers → HasRun z c r
    → all ≡ r.senders.items ++ r.closer ∷ [] → Pairs HasMet all senders → Pairs HasMet r.receivers.items receivers → HaveSeenOne senders receivers [] → Settled z c r senders receivers
settled z c r all senders receivers setting some run is met met' one =
    let config : z.setting.config ≡ queue_of c = ap (λ (s : Setting). s.config) setting in
    let closer : IsBack z c.senders r.closer = closer_back z c.senders (fresh z c.senders) r.closer r.senders.items r.closed refl run.closed in
    let row : InRow (IsBack z) 0 all = row_push (IsBack z) 0 c.senders r.senders.items all r.closer is (let n = run.count_senders in omega (arith, n)) (row_weaker (SenderIsBack z c.items) (IsBack z) (λ k w s. s.back) 0 r.senders.items run.senders) closer in
    let ours : InRow (IsBack z) 0 senders = row_met (IsBack z) (back_met z) 0 all senders row met in
    let theirs : InRow (ReceiverIsBack z) (c.senders + 1) receivers = row_met (ReceiverIsBack z) (receiver_met z) (c.senders + 1) r.receivers.items receivers run.receivers met' in
    let theirs_back : InRow (IsBack z) (c.senders + 1) receivers = row_weaker (ReceiverIsBack z) (IsBack z) (λ k w b. b.back) (c.senders + 1) receivers theirs in
    let were_back : InRow (IsBack z) (c.senders + 1) r.receivers.items = row_weaker (ReceiverIsBack z) (IsBack z) (λ k w b. b.back) (c.senders + 1) r.receivers.items run.receivers in
    let count : length senders ≡ c.senders + 1 = pairs_length all senders met ∙ ap length is ∙ length-append r.senders.items (r.closer ∷ []) ∙ ap (λ (n : ℕ). n + 1) run.count_senders in
    let count' : length receivers ≡ c.receivers = pairs_length r.receivers.items receivers met' ∙ run.count_receivers in
    let one_group : z.setting.config.groups ≡ 1 = ap (λ (k : Config). k.groups) config in
    let all_groups : groups z.setting.config * z.setting.config.receivers ≡ c.receivers = ap (λ (k : Config). k.groups * k.receivers) config ∙ (omega arith) in
    let its : in_group z.setting.config 1 receivers ≡ receivers = only_group z.setting.config receivers (count' ∙ ap (λ (k : Config). k.receivers) (sym config)) in
    let first : AreInRow z 0 z.setting.config.senders senders × AreInRow z z.setting.config.senders (groups z.setting.config * z.setting.config.receivers) receivers = (
      are_in_row z 0 z.setting.config.senders senders (count ∙ ap (λ (k : Config). k.senders) (sym config)) ours,
      subst (λ (n : ℕ). AreInRow z n (groups z.setting.config * z.setting.config.receivers) receivers) (ap (λ (k : Config). k.senders) (sym config)) (are_in_row z (c.senders + 1) (groups z.setting.config * z.setting.config.receivers) receivers (count' ∙ sym all_groups) theirs_back),
    ) in
    let sends : receipts_by sent senders ≡ r.sends.items = receipts_met sent z 0 all senders row met ∙ no_more_receipts sent r.senders.items all r.closer is (closer_sent_none z c.senders (fresh z c.senders) r.closer r.senders.items r.closed refl run.closed) ∙ sym run.sends in
    let takes : receipts_by got (in_group z.setting.config 1 receivers) ≡ r.takes.items = ap (receipts_by got) its ∙ receipts_met got z (c.senders + 1) r.receivers.items receivers were_back met' ∙ sym run.takes in
    let last = pairs_last HasMet r.senders.items senders r.closer (subst (λ l. Pairs HasMet l senders) is met) in
    let who : Walk = last.1 in
    let who_back : IsBack z c.senders who = back_met z c.senders r.closer who closer last.4 in
    let who_seen : who.seen ≡ one.seen = (all_split (λ w. w.seen ≡ one.seen) last.0 senders who last.2 one.senders_have).1 in
    let seen : seen_by senders ≡ history_of z.setting one.seen = seen_is z senders one.seen (let n = count in omega (arith, n)) first.0 one.senders_have in
    let legal = valid z c.senders who one.seen who_back who_seen in
    record {
      all = all_live z senders receivers [] first.0 first.1;
      one = one;
      group = omega (arith, one_group);
      sends = same_items _ r.sends.items (live_told sent senders ∙ sends);
      takes = same_items _ r.takes.items (ap (receipts_told got) (group_of_map Live z.setting.config 1 receivers) ∙ live_told got (in_group z.setting.config 1 receivers) ∙ takes);
      total = ap (λ l. total_of (seen_by l)) (live_walks senders)
          ∙ sym (total_is who.setting.config (history who) (name who) r.closed who_back.stands.legal (closer_told z c.senders (fresh z c.senders) r.closer who r.senders.items r.closed refl run.closed last.4)
          ∙ ap total_of (seen_of z c.senders who one.seen who_back who_seen ∙ sym seen));
      even = ap length (sym takes) ∙ sym (length_permutation _ _ (takes_held z receivers one.seen 1 (rw (ap (λ (k : Config). k.receivers) config) some) (omega arith) (omega (arith, one_group)) legal first.1 one.receivers_have)) ∙ even_so z (c.senders + 1) receivers one.seen one_group (let n = count' in omega (arith, n, some)) theirs one.receivers_have
          ∙ length_permutation _ _ (sends_held z senders one.seen legal first.0 one.senders_have) ∙ ap length sends;
      count = ap length run.sends ∙ all_items z c.items 0 r.senders.items run.senders ∙ ap (λ (n : ℕ). n * c.items) run.count_senders;
    }

-- they are of one queue before they meet
pub together : (z : Topic) (c : DriveConfig) (r : Ran) (all : List Walk) → HasRun z c r → all ≡ r.senders.items ++ r.closer ∷ [] → AreOf z all r.receivers.items []
together z c r all run is =
    let closer : IsBack z c.senders r.closer = closer_back z c.senders (fresh z c.senders) r.closer r.senders.items r.closed refl run.closed in
    let row : InRow (IsBack z) 0 all = row_push (IsBack z) 0 c.senders r.senders.items all r.closer is (let n = run.count_senders in omega (arith, n)) (row_weaker (SenderIsBack z c.items) (IsBack z) (λ k w s. s.back) 0 r.senders.items run.senders) closer in
    record {
      senders_are = row_all (IsBack z) (IsOf z) (λ k w b. b.here) 0 all row;
      receivers_are = row_all (ReceiverIsBack z) (IsOf z) (λ k w b. b.back.here) (c.senders + 1) r.receivers.items run.receivers;
      given_up_are = λ k d less. absurd (omega (arith, less));
    }
