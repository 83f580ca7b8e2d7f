-- The passes of an opened queue, as they are dealt to the workers.
use Rattle.std.proofs.Common.{◌≡◌, ℕ, suc, ◌+◌, ◌≤◌, List, [], ◌∷◌, ◌++◌, length, map, refl, sym, ap, ◌∙◌, subst, arith}
use Rattle.std.proofs.lemmas.List.{length-map}
use Rattle.cc_drive.specs.Names.{Config, Pass, DriveConfig}
use Rattle.cc_runs.specs.State.{pass_at}
use Rattle.cc_steps.specs.Topic.{Topic}
use Rattle.cc_steps.specs.Walk.{Walk, fresh, fresh_from}
use Rattle.cc_queue.proofs.Held.{sender_named, receiver_named}
use Rattle.cc_drive.specs.declared.jobs.WorkerJob.{WorkerJob}
use Rattle.cc_drive.specs.Config.{queue_of}
use Rattle.cc_drive.specs.Jobs.{IsSending, IsTaking}
use Rattle.cc_drive.specs.Row.{InRow}

split : (z : Topic) (n : ℕ) (xs : List Walk) (x : Walk) → fresh_from z n (xs ++ x ∷ []) → fresh_from z n xs × (x ≡ fresh z (n + length xs))
split z n [] x f = (tt, f.0 ∙ ap (fresh z) (omega arith))
split z n (y ∷ xs) x f = let rest = split z (n + 1) xs x f.1 in ((f.0, rest.0), rest.1 ∙ ap (fresh z) (omega arith))

-- the last of a row of passes, and the others
pub fresh_split : (z : Topic) (n : ℕ) (xs all : List Walk) (x : Walk) → all ≡ xs ++ x ∷ [] → fresh_from z n all → fresh_from z n xs × (x ≡ fresh z (n + length xs))
fresh_split z n xs all x is f = split z n xs x (subst (fresh_from z n) is f)

-- the senders' jobs
sending_from : {G : Type 0} (z : Topic) (c : DriveConfig) (row : ℕ) (jobs : List (WorkerJob Walk G)) (passes : List Walk) → z.setting.config ≡ queue_of c → row + length jobs ≤ c.senders → map (λ j. j.pass) jobs ≡ passes → fresh_from z row passes → InRow (λ n j. j.number ≡ n) (row + 1) jobs → InRow (IsSending z) row jobs
sending_from z c row [] passes config few are f numbers = tt
sending_from z c row (j ∷ jobs) [] config few are f numbers = absurd (let n : suc (length (map (λ i. i.pass) jobs)) ≡ 0 = ap length are in omega (arith, n))
sending_from z c row (j ∷ jobs) (p ∷ passes) config few are f numbers =
    let at : pass_at z.setting.config row ≡ Pass.Sender (1 + row) = ap (λ (k : Config). pass_at k row) config ∙ sender_named (queue_of c) row (omega (arith, few)) in
    let one : j.pass ≡ p = cc are in
    let rest : map (λ i. i.pass) jobs ≡ passes = cc are in
    let number : j.number ≡ row + 1 = numbers.0 in (
      (one ∙ f.0, at ∙ ap Pass.Sender (omega (arith, number)), ap (λ (k : Config). k.per_sender) config),
      sending_from z c (row + 1) jobs passes config (omega (arith, few)) rest f.1 numbers.1,
    )

pub sending_row : {G : Type 0} (z : Topic) (c : DriveConfig) (jobs : List (WorkerJob Walk G)) (passes : List Walk) → z.setting.config ≡ queue_of c → length passes ≡ c.senders → map (λ j. j.pass) jobs ≡ passes → fresh_from z 0 passes → InRow (λ n j. j.number ≡ n) 1 jobs → InRow (IsSending z) 0 jobs
sending_row z c jobs passes config count are f numbers = sending_from z c 0 jobs passes config (let n : length jobs ≡ c.senders = sym (length_map jobs) ∙ ap length are ∙ count in omega (arith, n)) are f numbers
  where
    length_map : {G : Type 0} (jobs : List (WorkerJob Walk G)) → length (map (λ (j : WorkerJob Walk G). j.pass) jobs) ≡ length jobs
    length_map [] = refl
    length_map (j ∷ jobs) = ap suc (length_map jobs)

-- the receivers' jobs
taking_from : {G : Type 0} (z : Topic) (c : DriveConfig) (k : ℕ) (jobs : List (WorkerJob Walk G)) (passes : List Walk) → z.setting.config ≡ queue_of c → map (λ j. j.pass) jobs ≡ passes → fresh_from z (c.senders + 1 + k) passes → InRow (λ n j. j.number ≡ n) (k + 1) jobs → InRow (IsTaking z) (c.senders + 1 + k) jobs
taking_from z c k [] passes config are f numbers = tt
taking_from z c k (j ∷ jobs) [] config are f numbers = absurd (let n : suc (length (map (λ i. i.pass) jobs)) ≡ 0 = ap length are in omega (arith, n))
taking_from {G} z c k (j ∷ jobs) (p ∷ passes) config are f numbers =
    let at : pass_at z.setting.config (c.senders + 1 + k) ≡ Pass.Receiver (1 + k) = ap (λ (x : Config). pass_at x (c.senders + 1 + k)) config ∙ receiver_named (queue_of c) k in
    let one : j.pass ≡ p = cc are in
    let rest : map (λ i. i.pass) jobs ≡ passes = cc are in
    let number : j.number ≡ k + 1 = numbers.0 in
    let next : c.senders + 1 + (k + 1) ≡ c.senders + 1 + k + 1 = omega arith in (
      (one ∙ f.0, at ∙ ap Pass.Receiver (omega (arith, number))),
      subst (λ (n : ℕ). InRow (IsTaking {G = G} z) n jobs) next (taking_from z c (k + 1) jobs passes config rest (subst (λ (n : ℕ). fresh_from z n passes) (sym next) f.1) numbers.1),
    )

pub taking_row : {G : Type 0} (z : Topic) (c : DriveConfig) (jobs : List (WorkerJob Walk G)) (passes : List Walk) → z.setting.config ≡ queue_of c → map (λ j. j.pass) jobs ≡ passes → fresh_from z (c.senders + 1) passes → InRow (λ n j. j.number ≡ n) 1 jobs → InRow (IsTaking z) (c.senders + 1) jobs
taking_row {G} z c jobs passes config are f numbers =
    let none : c.senders + 1 + 0 ≡ c.senders + 1 = omega arith in
    subst (λ (n : ℕ). InRow (IsTaking {G = G} z) n jobs) none (taking_from z c 0 jobs passes config are (subst (λ (n : ℕ). fresh_from z n passes) (sym none) f) numbers)

-- as many jobs as passes
pub dealt_count : {G : Type 0} (count : ℕ) (jobs : List (WorkerJob Walk G)) (passes : List Walk) → map (λ j. j.pass) jobs ≡ passes → length passes ≡ count → length jobs ≡ count
dealt_count count jobs passes are is = sym (length-map jobs (λ j. j.pass)) ∙ ap length are ∙ is
