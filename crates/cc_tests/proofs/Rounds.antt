-- The passes of a round and their receipts: as a thread works, as all come back, and as they meet.
use Rattle.std.proofs.Common.{◌≡◌, ◌≢◌, ℕ, zero, suc, ◌+◌, ◌*◌, ◌<◌, true, List, [], ◌∷◌, ◌++◌, map, length, take, get_or, Some, refl, sym, ap, ◌∙◌, subst, arith, append_assoc, append-nil, length-append}
use Rattle.std.specs.List.{All}
use Rattle.std.proofs.lemmas.List.{map-append, take_more}
use Rattle.cc_runs.specs.ChainLaws.{IsLastAnswer}
use Rattle.cc_runs.specs.Run.{history_of}
use Rattle.cc_runs.specs.Words.{groups}
use Rattle.cc_steps.specs.Topic.{Topic}
use Rattle.cc_steps.specs.Walk.{Walk, fresh, fresh_from}
use Rattle.cc_audit.specs.Receipts.{take_receipt, total_of}
use Rattle.cc_queue.specs.Calls.{Repeated, Completed, SentUntil, TakenUntil, last_of}
use Rattle.cc_queue.specs.Headline.{entry_of, name, history}
use Rattle.cc_queue.specs.Met.{HasMet, EachHasMet, HaveSeenOne}
use Rattle.cc_queue.specs.Receipts.{AreInRow, in_group, receipts_in, receipts_by, seen_by, sent, got}
use Rattle.cc_queue.specs.SendCount.{HasBegunSends}
use Rattle.cc_queue.proofs.Held.{seen_is}
use Rattle.cc_queue.proofs.Lasts.{group_of_map}
use Rattle.cc_queue.proofs.OnItsSide.{Told}
use Rattle.cc_drive.specs.Back.{IsBack, calls}
use Rattle.cc_drive.specs.Crew.{in_turn}
use Rattle.cc_drive.specs.Names.{Answer, Body, Call, CloseAnswer, Config, Entry, Item, Move, Pass, SendAnswer, SendReceipt, TakeAnswer, TakeReceipt}
use Rattle.cc_drive.specs.Ran.{total_in}
use Rattle.cc_drive.specs.Row.{InRow, Pairs}
use Rattle.cc_drive.proofs.Ended.{are_in_row, back_met, row_met}
use Rattle.cc_drive.proofs.Pairs.{all_split, pairs_last, pairs_of}
use Rattle.cc_drive.proofs.Rows.{row_push}
use Rattle.cc_drive.proofs.Told.{calls_stay}
use Rattle.cc_drive.proofs.Totals.{total_is}
use Rattle.cc_drive.proofs.Workers.{Working, working_none, working_more, working_still, sent_one}
use Rattle.cc_tests.specs.Rounds.{IsFresh, receipts_each, HasKept, HaveKept, HasClosed, HasPlayed, AreSettled}
use Rattle.cc_tests.proofs.Numbers.{number_is}

-- ---- a thread at work

-- tries that leave no receipt
tried : {X : Type 0} (receipts : Told → List X) (z : Topic) (row : ℕ) (who : Pass) (call : Call) (told : Answer) → ((e : Entry) → receipts (e, Some told) ≡ [])
    → (w : Walk) (ws : List Walk) (keeps : List X) → Working receipts z row who w true keeps → Repeated call told w ws → Working receipts z row who (last_of w ws) true keeps
tried receipts z row who call told none w [] keeps k r = k
tried receipts z row who call told none w (x ∷ ws) keeps k r = tried receipts z row who call told none x ws keeps (working_still receipts z row who w x true keeps call told k r.0 (none (entry_of w call))) r.1

-- the receipt of a send that was accepted
pub sent_more : (z : Topic) (row : ℕ) (who : Pass) (n count : ℕ) (v x : Walk) (keeps new : List SendReceipt) (body : Body) (told : SendAnswer) (place : ℕ) → who ≡ Pass.Sender n → Working sent z row who v true keeps → told ≡ SendAnswer.Accepted place → SentUntil v body told x
    → HasBegunSends x count → new ≡ keeps ++ record { sender = n; number = count; place = place; body = body } ∷ [] → Working sent z row who x true new
sent_more z row who n count v x keeps new body told place is k accepted until begun end =
    let s = subst (λ (a : SendAnswer). SentUntil v body a x) accepted until in
    let w : Walk = last_of v s.tried in
    let before = tried sent z row who (Call.Send body) (Answer.Send SendAnswer.Full) (λ e. refl) v s.tried keeps k s.full in
    let number : w.stand.begun + 1 ≡ count = number_is n count w x body (Answer.Send (SendAnswer.Accepted place)) (before.named ∙ is) s.sent begun in
    let receipt = sent_one n w.stand.begun w body place (SendAnswer.Accepted place) (before.named ∙ is) refl refl ∙ ap (λ (m : ℕ). record { sender = n; number = m; place = place; body = body } ∷ []) number in
    working_more sent z row who w x true true keeps new (Call.Send body) (Answer.Send (SendAnswer.Accepted place)) before s.sent (λ t. t) (λ t. end ∙ ap (λ l. keeps ++ l) (sym receipt))

-- and of a take
got_none : (e : Entry) (told : TakeAnswer) → ((item : Item) → told ≢ TakeAnswer.Got item) → got (e, Some (Answer.Take told)) ≡ []
got_none e told none = go e.pass told none
  where
    go : (p : Pass) (t : TakeAnswer) → ((item : Item) → t ≢ TakeAnswer.Got item) → take_receipt p (Answer.Take t) ≡ []
    go (Pass.Receiver r) (TakeAnswer.Got item) none = absurd (none item refl)
    go (Pass.Receiver r) TakeAnswer.Empty none = refl
    go (Pass.Receiver r) (TakeAnswer.Ended total) none = refl
    go (Pass.Sender s) t none = refl

taken_before : (z : Topic) (row : ℕ) (who : Pass) (v x : Walk) (told : TakeAnswer) (keeps : List TakeReceipt) → Working got z row who v true keeps → (t : TakenUntil v told x) → Working got z row who (last_of v t.tried) true keeps
taken_before z row who v x told keeps k t = tried got z row who Call.Take (Answer.Take TakeAnswer.Empty) (λ e. got_none e TakeAnswer.Empty (λ item is. absurd (cc is))) v t.tried keeps k t.none

pub taken_more : (z : Topic) (row : ℕ) (who : Pass) (n : ℕ) (v x : Walk) (keeps new : List TakeReceipt) (told : TakeAnswer) (item : Item) → who ≡ Pass.Receiver n → Working got z row who v true keeps → told ≡ TakeAnswer.Got item → TakenUntil v told x
    → new ≡ keeps ++ record { receiver = n; item = item } ∷ [] → Working got z row who x true new
taken_more z row who n v x keeps new told item is k got_it until end =
    let t = subst (λ (a : TakeAnswer). TakenUntil v a x) got_it until in
    let before = taken_before z row who v x (TakeAnswer.Got item) keeps k t in
    working_more got z row who (last_of v t.tried) x true true keeps new Call.Take (Answer.Take (TakeAnswer.Got item)) before t.taken (λ t. t)
    (λ t. end ∙ ap (λ l. keeps ++ l) (sym (ap (λ (p : Pass). take_receipt p (Answer.Take (TakeAnswer.Got item))) (before.named ∙ is))))

pub taken_none : (z : Topic) (row : ℕ) (who : Pass) (v x : Walk) (keeps : List TakeReceipt) (told : TakeAnswer) → ((item : Item) → told ≢ TakeAnswer.Got item) → Working got z row who v true keeps → TakenUntil v told x → Working got z row who x true keeps
taken_none z row who v x keeps told none k t = working_still got z row who (last_of v t.tried) x true keeps Call.Take (Answer.Take told) (taken_before z row who v x told keeps k t) t.taken (got_none (entry_of (last_of v t.tried) Call.Take) told none)

pub has_kept : {X : Type 0} (receipts : Told → List X) (z : Topic) (row : ℕ) (who : Pass) (w : Walk) (keeps : List X) → Working receipts z row who w true keeps → HasKept receipts z row w keeps
has_kept receipts z row who w keeps k = record { back = k.back; all = k.kept refl }

-- a pass before its first call
pub at_first : {X : Type 0} (receipts : Told → List X) (z : Topic) (v : Walk) (keeps : List X) → IsFresh z v → HasMet v v → keeps ≡ [] → Working receipts z v.number (name v) v true keeps
at_first receipts z v keeps is met none = working_none receipts z v.number (name v) v true keeps is (sym (ap name is)) met none

-- and the closer, behind its only one
pub closed_so : (z : Topic) (v x : Walk) (told : CloseAnswer) → IsFresh z v → HasMet v v → Completed v Call.Close (Answer.Close told) x → HasKept sent z v.number x []
closed_so z v x told is met done = has_kept sent z v.number (name v) x [] (working_still sent z v.number (name v) v x true [] Call.Close (Answer.Close told) (at_first sent z v [] is met refl) done refl)

-- ---- all threads

-- the place of a fresh pass in the row
pub fresh_at : (z : Topic) (n : ℕ) (ws : List Walk) → fresh_from z n ws → (k : ℕ) (d : Walk) → k < length ws → get_or ws k d ≡ fresh z (n + k)
fresh_at z n [] f k d less = absurd (omega (arith, less))
fresh_at z n (w ∷ ws) f zero d less = f.0 ∙ ap (fresh z) (omega arith)
fresh_at z n (w ∷ ws) f (suc k) d less = fresh_at z (n + 1) ws f.1 k d (omega (arith, less)) ∙ ap (fresh z) (omega arith)

pub all_fresh : (z : Topic) (n : ℕ) (ws : List Walk) → fresh_from z n ws → All (IsFresh z) ws
all_fresh z n ws f k d less = let at : get_or ws k d ≡ fresh z (n + k) = fresh_at z n ws f k d less in at ∙ ap (λ (x : Walk). fresh z x.number) (sym at)

in_row : {A : Type 0} (Is : ℕ → A → Type 0) (n : ℕ) (xs : List A) → ((k : ℕ) (d : A) → k < length xs → Is (n + k) (get_or xs k d)) → InRow Is n xs
in_row Is n [] each = tt
in_row Is n (x ∷ xs) each = (
  (let at : n + 0 ≡ n = omega arith in subst (λ (m : ℕ). Is m x) at (each 0 x (omega arith))),
  in_row Is (n + 1) xs (λ k d less. let at : n + suc k ≡ n + 1 + k = omega arith in subst (λ (m : ℕ). Is m (get_or xs k d)) at (each (suc k) d (omega (arith, less)))),
)

-- the result of each thread has the place of its pass, which was fresh
pub all_back : {X K : Type 0} (receipts : Told → List X) (of : K → List X) (z : Topic) (n : ℕ) (jobs : List Walk) (ends : List (Walk × K)) → fresh_from z n jobs → length ends ≡ length jobs
    → ((k : ℕ) (d : Walk × K) → k < length jobs → (job : Walk) × (job ≡ get_or jobs k job) × HasKept receipts z job.number (get_or ends k d).0 (of (get_or ends k d).1)) → InRow (λ m e. HasKept receipts z m e.0 (of e.1)) n ends
all_back receipts of z n jobs ends f long each = in_row (λ m e. HasKept receipts z m e.0 (of e.1)) n ends (λ k d less.
    let inside : k < length jobs = omega (arith, long, less) in
    let it = each k d inside in
    let at : it.0 ≡ fresh z (n + k) = it.1 ∙ fresh_at z n jobs f k it.0 inside in
    subst (λ (m : ℕ). HasKept receipts z m (get_or ends k d).0 (of (get_or ends k d).1)) (ap (λ (w : Walk). w.number) at) it.2)

-- the results of all threads
pub have_kept : {X K : Type 0} (receipts : Told → List X) (of : K → List X) (z : Topic) (n : ℕ) (ends : List (Walk × K)) (passes : List Walk) (kept : List (List X)) → InRow (λ m e. HasKept receipts z m e.0 (of e.1)) n ends
    → passes ≡ map (λ e. e.0) ends → kept ≡ map (λ e. of e.1) ends → HaveKept receipts z n passes kept
have_kept {X} {K} receipts of z n ends passes kept row are are' = record {
  back = subst (InRow (IsBack z) n) (sym are) (backs n ends row);
  all = are' ∙ alls n ends row ∙ ap (receipts_each receipts) (sym are);
}
  where
    backs : (m : ℕ) (es : List (Walk × K)) → InRow (λ j e. HasKept receipts z j e.0 (of e.1)) m es → InRow (IsBack z) m (map (λ e. e.0) es)
    backs m [] row = tt
    backs m (e ∷ es) row = (row.0.back, backs (m + 1) es row.1)

    alls : (m : ℕ) (es : List (Walk × K)) → InRow (λ j e. HasKept receipts z j e.0 (of e.1)) m es → map (λ e. of e.1) es ≡ receipts_each receipts (map (λ e. e.0) es)
    alls m [] row = refl
    alls m (e ∷ es) row = λ i. row.0.all i ∷ alls (m + 1) es row.1 i

-- and one more pass
pub kept_more : {X : Type 0} (receipts : Told → List X) (z : Topic) (n m : ℕ) (ws new : List Walk) (kept more : List (List X)) (w : Walk) (its : List X) → HaveKept receipts z n ws kept → HasKept receipts z m w its → m ≡ n + length ws
    → new ≡ ws ++ w ∷ [] → more ≡ kept ++ its ∷ [] → HaveKept receipts z n new more
kept_more receipts z n m ws new kept more w its have has at end end' = record {
  back = row_push (IsBack z) n m ws new w end at have.back has.back;
  all = end' ∙ (λ i. have.all i ++ has.all i ∷ []) ∙ sym (map-append (λ x. receipts_in receipts (calls x)) ws (w ∷ [])) ∙ ap (receipts_each receipts) (sym end);
}

-- one goes over from the front of a list to the end of another
pub moved : {D A : Type 0} (of : D → A) (xs new all : List A) (d : D) (ds rest : List D) → ds ≡ d ∷ rest → new ≡ xs ++ of d ∷ [] → xs ++ map of ds ≡ all → new ++ map of rest ≡ all
moved of xs new all d ds rest front end was =
    ap (λ l. l ++ map of rest) end ∙ append_assoc xs (of d ∷ []) (map of rest) ∙ ap (λ l. xs ++ map of l) (sym front) ∙ was

-- and the lists in them one after another
pub turn_more : {A D : Type 0} (of : D → List A) (ds : List D) (k : ℕ) (d : D) (xs : List A) → k < length ds → d ≡ get_or ds k d → xs ≡ in_turn (map of (take k ds)) → xs ++ of d ≡ in_turn (map of (take (k + 1) ds))
turn_more {A} of ds k d xs less is was =
    (λ i. was i ++ of d) ∙ sym (end (map of (take k ds)) (of d)) ∙ ap in_turn (sym (map-append of (take k ds) (d ∷ []))) ∙ ap (λ l. in_turn (map of l)) (ap (λ x. take k ds ++ x ∷ []) is ∙ sym (take_more ds k d less))
  where
    end : (xss : List (List A)) (ys : List A) → in_turn (xss ++ ys ∷ []) ≡ in_turn xss ++ ys
    end [] ys = append-nil ys
    end (xs ∷ xss) ys = ap (λ l. xs ++ l) (end xss ys) ∙ sym (append_assoc xs (in_turn xss) ys)

-- ---- as they meet

each_met : {X : Type 0} (receipts : Told → List X) (z : Topic) (n : ℕ) (vs ws : List Walk) → InRow (IsBack z) n vs → Pairs HasMet vs ws → receipts_each receipts ws ≡ receipts_each receipts vs
each_met receipts z n [] [] row met = refl
each_met receipts z n [] (w ∷ ws) row met = absurd met
each_met receipts z n (v ∷ vs) [] row met = absurd met
each_met receipts z n (v ∷ vs) (w ∷ ws) row met = λ i. receipts_in receipts (calls_stay v w row.0.stands row.0.answered met.0.stands i) ∷ each_met receipts z (n + 1) vs ws row.1 met.1 i

last_row : {A : Type 0} (Is : ℕ → A → Type 0) (n : ℕ) (xs : List A) (x : A) → InRow Is n (xs ++ x ∷ []) → Is (n + length xs) x
last_row Is n [] x row = let at : n ≡ n + 0 = omega arith in subst (λ (m : ℕ). Is m x) at row.0
last_row Is n (y ∷ xs) x row = let at : n + 1 + length xs ≡ n + suc (length xs) = omega arith in subst (λ (m : ℕ). Is m x) at (last_row Is (n + 1) xs x row.1)

-- the total of the close is that of the history that all have seen
total_so : (z : Topic) (senders new : List Walk) (told : CloseAnswer) (seen : List Move) → InRow (IsBack z) 0 senders → Pairs HasMet senders new → AreInRow z 0 z.setting.config.senders new → All (λ w. w.seen ≡ seen) new → HasClosed told senders → total_of (seen_by new) ≡ Some (total_in told)
total_so z senders new told seen row met are one k =
    let back : IsBack z (length k.others) k.closer = let at : 0 + length k.others ≡ length k.others = omega arith in subst (λ (n : ℕ). IsBack z n k.closer) at (last_row (IsBack z) 0 k.others k.closer (subst (InRow (IsBack z) 0) k.last row)) in
    let last = pairs_last HasMet k.others new k.closer (subst (λ l. Pairs HasMet l new) k.last met) in
    let who : Walk = last.1 in
    let who_back : IsBack z (length k.others) who = back_met z (length k.others) k.closer who back last.4 in
    let who_seen : who.seen ≡ seen = (all_split (λ w. w.seen ≡ seen) last.0 new who last.2 one).1 in
    let some : 0 < length new = (let n = ap length last.2 in let m = length-append last.0 (who ∷ []) in omega (arith, n, m)) in
    let same : history who ≡ seen_by new = (λ i. history_of (who_back.here.1 i) (who_seen i)) ∙ sym (seen_is z new seen some are one) in
    let closed : IsLastAnswer (name who) (history who) (Answer.Close told) = record { before = k.closed.before; entry = k.closed.entry; last = calls_stay k.closer who back.stands back.answered last.4.stands ∙ k.closed.last } in
    ap total_of (sym same) ∙ sym (total_is who.setting.config (history who) (name who) told who_back.stands.legal closed)

pub settled : (c : Config) (z : Topic) (senders receivers new new' gone : List Walk) (sends : List (List SendReceipt)) (takes : List (List TakeReceipt)) (told : CloseAnswer) → HasPlayed c z senders receivers sends takes told
    → length new ≡ length senders → length new' ≡ length receivers → EachHasMet senders new → EachHasMet receivers new' → HaveSeenOne new new' gone → AreSettled c z new new' sends takes told
settled c z senders receivers new new' gone sends takes told p long long' met met' one =
    let pairs : Pairs HasMet senders new = pairs_of HasMet senders new long met in
    let pairs' : Pairs HasMet receivers new' = pairs_of HasMet receivers new' long' met' in
    let ours : InRow (IsBack z) 0 new = row_met (IsBack z) (back_met z) 0 senders new p.sent_all.back pairs in
    let theirs : InRow (IsBack z) c.senders new' = row_met (IsBack z) (back_met z) c.senders receivers new' p.took_all.back pairs' in
    let are : AreInRow z 0 z.setting.config.senders new = are_in_row z 0 z.setting.config.senders new (long ∙ p.count_senders ∙ ap (λ (k : Config). k.senders) (sym p.config)) ours in
    record {
      valid = p.valid;
      config = p.config;
      senders_are = are;
      receivers_are = subst (λ (k : Config). AreInRow z k.senders (groups k * k.receivers) new') (sym p.config) (are_in_row z c.senders (groups c * c.receivers) new' (long' ∙ p.count_receivers) theirs);
      one = record { seen = one.seen; senders_have = one.senders_have; receivers_have = one.receivers_have; given_up_have = λ k d less. absurd (omega (arith, less)) };
      sends_are = p.sent_all.all ∙ sym (each_met sent z 0 senders new p.sent_all.back pairs);
      takes_are = p.took_all.all ∙ sym (each_met got z c.senders receivers new' p.took_all.back pairs');
      total = total_so z senders new told one.seen p.sent_all.back pairs are one.senders_have p.closed;
    }

-- the receipts of these passes one after another
pub by_turn : {X : Type 0} (receipts : Told → List X) (ws : List Walk) → in_turn (receipts_each receipts ws) ≡ receipts_by receipts ws
by_turn receipts [] = refl
by_turn receipts (w ∷ ws) = ap (λ l. receipts_in receipts (calls w) ++ l) (by_turn receipts ws)

-- and of those of a group
pub by_group : {X K : Type 0} (receipts : Told → List X) (of : K → List X) (c : Config) (g : ℕ) (kept : List K) (ws : List Walk) → map of kept ≡ receipts_each receipts ws → in_turn (map of (in_group c g kept)) ≡ receipts_by receipts (in_group c g ws)
by_group receipts of c g kept ws are =
    ap in_turn (sym (group_of_map of c g kept) ∙ ap (in_group c g) are ∙ group_of_map (λ w. receipts_in receipts (calls w)) c g ws) ∙ by_turn receipts (in_group c g ws)
