-- A prefix of a run is a run, and its history begins the later one.
use Rattle.std.proofs.Common.{◌≡◌, ℕ, ◌≤◌, length, arith, List, [], ◌∷◌, ◌++◌, Option, Some, None, refl, sym, ap, ◌∙◌, append_assoc, append-nil}
use Rattle.std.proofs.lemmas.List.{length-set, get_or_past}
use Rattle.cc_runs.proofs.ListRuns.Decided.{group_mine, group_other}
use Rattle.cc_model.specs.Record.{Side, Record, of_group, with_takes}
use Rattle.cc_model.specs.Items.{IsPrefix, SideBegins, Begins}
use Rattle.cc_runs.specs.Names.{Entry, Answer, Setting, Chain, Move}
use Rattle.cc_runs.specs.State.{State, appended, noted, chain_of}
use Rattle.cc_runs.specs.Run.{moved, reached, history_of, IsRun}
use Rattle.cc_runs.specs.MachineLaws.{PrefixesBegin}

pub prefix_self : {X : Type 0} (xs : List X) → IsPrefix xs xs
prefix_self xs = ([], sym (append-nil xs))

pub prefix_more : {X : Type 0} (xs ys zs : List X) → IsPrefix xs ys → IsPrefix ys zs → IsPrefix xs zs
prefix_more {X} xs ys zs a b = (a.0 ++ b.0, b.1 ∙ ap (λ (l : List X). l ++ b.0) a.1 ∙ append_assoc xs a.0 b.0)

front_appended : {X : Type 0} (xs : List X) (x : Option X) → IsPrefix xs (appended xs x)
front_appended xs None = prefix_self xs
front_appended xs (Some x) = (x ∷ [], refl)

side_self : (s : Side) → SideBegins s s
side_self s = record { calls = prefix_self s.calls; answers = prefix_self s.answers }

pub begins_self : (h : Record) → Begins h h
begins_self h = record { sends = side_self h.sends; takes = λ y. side_self (of_group h y); groups = refl }

side_more : (s l m : Side) → SideBegins s l → SideBegins l m → SideBegins s m
side_more s l m a b = record { calls = prefix_more s.calls l.calls m.calls a.calls b.calls; answers = prefix_more s.answers l.answers m.answers a.answers b.answers }

begins_more : (h l m : Record) → Begins h l → Begins l m → Begins h m
begins_more h l m a b = record {
  sends = side_more h.sends l.sends m.sends a.sends b.sends;
  takes = λ y. side_more (of_group h y) (of_group l y) (of_group m y) (a.takes y) (b.takes y);
  groups = a.groups ∙ b.groups;
}

side_appended : (s : Side) (call : Option Entry) (told : Option Answer) → SideBegins s (record { calls = appended s.calls call; answers = appended s.answers told })
side_appended s call told = record { calls = front_appended s.calls call; answers = front_appended s.answers told }

-- if there is no such group nothing changes
past : (h : Record) (y x : ℕ) (now : Side) → length h.takes ≤ y → of_group (with_takes h y now) x ≡ of_group h x
past h y x now far = grind (arith, get_or_past, length-set, group_other)

pub begins_noted : (x : Chain) (h : Record) (call : Option Entry) (told : Option Answer) → Begins h (noted x h call told)
begins_noted Chain.Send h call told = record { sends = side_appended h.sends call told; takes = λ y. side_self (of_group h y); groups = refl }
begins_noted (Chain.Take g) h call told = record {
  sends = side_self h.sends;
  takes = λ y. grind (
    arith,
    group_mine h g (now call told),
    side_appended (of_group h g) call told,
    group_other h g y (now call told),
    side_self (of_group h y),
    past h g y (now call told),
  );
  groups = sym (length-set h.takes g (now call told));
}
  where
    now : Option Entry → Option Answer → Side
    now call told = record { calls = appended (of_group h g).calls call; answers = appended (of_group h g).answers told }

-- one move
begins_moved : (c : Setting) (s : State) (m : Move) → Begins s.history (moved c s m).history
begins_moved c s (Move.Step p) = begins_noted (chain_of c.config p) s.history _ _
begins_moved c s _ = begins_self s.history

pub prefixes_begin : PrefixesBegin
prefixes_begin c [] earlier r = (r, begins_self (history_of c earlier))
prefixes_begin c (m ∷ later) earlier r =
    let so_far : IsRun c earlier × Begins (history_of c earlier) (history_of c (later ++ earlier)) = prefixes_begin c later earlier r.0 in
    (so_far.0, begins_more (history_of c earlier) (history_of c (later ++ earlier)) (history_of c (m ∷ (later ++ earlier))) so_far.1 (begins_moved c (reached c (later ++ earlier)) m))
