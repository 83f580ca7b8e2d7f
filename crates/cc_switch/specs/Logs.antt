-- The order of logs: a log goes on from itself, and from whatever the log before goes on from.
use Rattle.std.specs.Prelude.{◌≡◌, List, [], ◌++◌}
use mathlib.Core.Path.{subst}
use mathlib.Core.List.{IsPrefix, append_assoc, append-nil}
use Rattle.cc_switch.specs.Links.{GoesOnFrom, done_by}
use Rattle.cc_switch.specs.declared.links.RowLog.{RowLog}

pub prefix_self : {E : Type 0} (xs : List E) → IsPrefix xs xs
prefix_self xs = ([], append-nil xs)

pub prefix_trans : {E : Type 0} (xs ys zs : List E) → IsPrefix xs ys → IsPrefix ys zs → IsPrefix xs zs
prefix_trans {E} xs ys zs p q = (
  p.0 ++ q.0,
  subst (λ (l : List E). l ++ q.0 ≡ zs → xs ++ (p.0 ++ q.0) ≡ zs) p.1
      (λ e. subst (λ (l : List E). l ≡ zs) (append_assoc xs p.0 q.0) e) q.1,
)

pub goes_same : (a : RowLog) → GoesOnFrom a a
goes_same a = record { links = prefix_self a.links; ended = λ g. prefix_self (done_by a.ended g) }

pub goes_onward : (a b c : RowLog) → GoesOnFrom a b → GoesOnFrom b c → GoesOnFrom a c
goes_onward a b c p q = record {
  links = prefix_trans a.links b.links c.links p.links q.links;
  ended = λ g. prefix_trans (done_by a.ended g) (done_by b.ended g) (done_by c.ended g) (p.ended g) (q.ended g);
}
