-- As a history goes on, there is no less to be known of it: a prefix of a run gives a pass no more to know than the
-- run.
use Rattle.std.proofs.Common.{◌≡◌, ℕ, ◌+◌, ◌≤◌, Bool, ◌||◌, List, ◌∷◌, ◌++◌, length, map, get_or, suc, sym, ap, ◌∙◌, arith, length-append, if◌then◌else◌, []}
use Rattle.std.specs.List.{list_any}
use Rattle.std.proofs.lemmas.List.{length-map}
use Rattle.cc_runs.specs.Names.{Chain, Pass, Item, Entry, Answer}
use Rattle.cc_model.specs.Record.{Side, Record, of_group}
use Rattle.cc_model.specs.Items.{SideBegins, Begins, accepted_by, accepted_item, shuts, handed_by, least, known_at}
use Rattle.cc_model.proofs.Grows.{any-append, handed_by-append}
use Rattle.cc_runs.specs.State.{pass_at}
use Rattle.cc_runs.specs.Run.{history_of}
use Rattle.cc_runs.specs.Passes.{PrefixesKnowNoMore}
use Rattle.cc_runs.proofs.RunPrefixes.{prefixes_begin}
use Rattle.cc_runs.proofs.ChainLaws.{chain_laws}
use Rattle.cc_runs.proofs.ListRuns.Least.{counts_get}

pub accepted_grow : (calls more : List Entry) (answers later : List Answer) → length answers ≤ length calls → length (accepted_by calls answers) ≤ length (accepted_by (calls ++ more) (answers ++ later))
accepted_grow (d ∷ calls) more (a ∷ answers) later order =
    omega (arith, accepted_grow calls more answers later (omega (arith, order)), length-append (accepted_item d a) (accepted_by calls answers), length-append (accepted_item d a) (accepted_by (calls ++ more) (answers ++ later)))
accepted_grow calls more answers later order = grind arith

shut_grow : (a b : Bool) → (if a then 1 else 0) ≤ (if a || b then 1 else 0)
shut_grow a b = grind arith

-- of lists of numbers of one length, none of which is less, the least is no less
least_grows : (xs ys : List ℕ) → length xs ≡ length ys → ((k : ℕ) → get_or xs k 0 ≤ get_or ys k 0) → least xs ≤ least ys
least_grows [] ys same up = omega arith
least_grows (x ∷ []) (y ∷ []) same up = up 0
least_grows (x ∷ x' ∷ xs) (y ∷ y' ∷ ys) same up = omega (arith, up 0, least_grows (x' ∷ xs) (y' ∷ ys) (omega (arith, same)) (λ k. up (suc k)))
least_grows _ _ same up = absurd (omega (arith, same))

abbrev count : Side → ℕ
count side = length (handed_by side.answers)

side_grows : (s later : Side) → SideBegins s later → count s ≤ count later
side_grows s later b =
    let is : count later ≡ count s + length (handed_by b.answers.0) =
    ap (λ (l : List Answer). length (handed_by l)) b.answers.1 ∙ ap (λ (l : List Item). length l) (handed_by-append s.answers b.answers.0) ∙ length-append (handed_by s.answers) (handed_by b.answers.0) in
    omega (arith, is)

pub known_grow : (h later : Record) (who : Pass) → length h.sends.answers ≤ length h.sends.calls → Begins h later → known_at who h ≤ known_at who later
known_grow h later (Pass.Sender n) order b =
    least_grows (map count h.takes) (map count later.takes) (length-map h.takes count ∙ b.groups ∙ sym (length-map later.takes count))
    (λ k. omega (arith, counts_get h.takes k, counts_get later.takes k, side_grows (of_group h k) (of_group later k) (b.takes k)))
known_grow h later (Pass.Receiver n) order b =
    let calls = b.sends.calls in
    let answers = b.sends.answers in
    let items : length (accepted_by later.sends.calls later.sends.answers) ≡ length (accepted_by (h.sends.calls ++ calls.0) (h.sends.answers ++ answers.0)) =
    λ i. length (accepted_by (calls.1 i) (answers.1 i)) in
    let shut : list_any shuts later.sends.answers ≡ (list_any shuts h.sends.answers || list_any shuts answers.0) =
    ap (list_any shuts) answers.1 ∙ any-append shuts h.sends.answers answers.0 in
    let mark : ◌≡◌ {A = ℕ} (if list_any shuts later.sends.answers then 1 else 0) (if list_any shuts h.sends.answers || list_any shuts answers.0 then 1 else 0) = ap (λ (x : Bool). if x then 1 else 0) shut in
    omega (arith, items, mark, accepted_grow h.sends.calls calls.0 h.sends.answers answers.0 order, shut_grow (list_any shuts h.sends.answers) (list_any shuts answers.0))

pub prefixes_know : PrefixesKnowNoMore
prefixes_know c checked more seen r p =
    let f = prefixes_begin c more seen r in known_grow (history_of c seen) (history_of c (more ++ seen)) (pass_at c.config p) ((chain_laws c checked seen f.0).ordered Chain.Send) f.1
