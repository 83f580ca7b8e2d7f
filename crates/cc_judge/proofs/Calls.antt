-- The call at a place: what it did, and whether it has an end.
use Rattle.std.proofs.Common.{◌≡◌, ◌≢◌, ℕ, ◌⊎◌, inl, inr, List, Option, Some, None, IsSome, refl, sym, ap, ◌∙◌, subst, arith}
use Rattle.cc_judge.specs.Names.{Act, Call}
use Rattle.cc_judge.specs.Faults.{Did, FindsNone}
use Rattle.cc_judge.proofs.Turns.{one_at}

pub one_call : (calls : List Call) (p : ℕ) (act other : Act) (d : Did calls p act) (e : Did calls p other) → d.call ≡ e.call
one_call calls p act other d e = one_at calls p d.call e.call d.call_is e.call_is

pub one_act : (calls : List Call) (p : ℕ) (act other : Act) → Did calls p act → Did calls p other → act ≡ other
one_act calls p act other d e = sym d.act_is ∙ ap (λ (c : Call). c.act) (one_call calls p act other d e) ∙ e.act_is

pub sent_one : (calls : List Call) (place item other : ℕ) → Did calls place (Act.Send item) → Did calls place (Act.Send other) → item ≡ other
sent_one calls place item other a b = cc (one_act calls place (Act.Send item) (Act.Send other) a b)

-- a take got one item
pub took_item : (calls : List Call) (take one other : ℕ) → Did calls take (Act.Took one) → Did calls take (Act.Took other) → one ≡ other
took_item calls take one other a b = cc (one_act calls take (Act.Took one) (Act.Took other) a b)

-- ---- what it did

pub is_send : (act : Act) → ((item : ℕ) × (act ≡ Act.Send item)) ⊎ ((item : ℕ) → act ≢ Act.Send item)
is_send (Act.Send item) = inl (item, refl)
is_send _ = inr (λ item is. cc)

pub none_send : (act : Act) (item : ℕ) → FindsNone act → act ≢ Act.Send item
none_send act item finds send = grind arith

pub none_took : (act : Act) (item : ℕ) → FindsNone act → act ≢ Act.Took item
none_took act item finds took = grind arith

pub none_taking : (act : Act) → FindsNone act → act ≢ Act.Taking
none_taking act finds taking = grind arith

-- ---- its end

pub none_some : (o : Option ℕ) → o ≡ None → IsSome o → ⊥
none_some o open_end some = grind arith

pub is_some_of : (o : Option ℕ) (e : ℕ) → o ≡ Some e → IsSome o
is_some_of o e is = subst IsSome (sym is) refl

pub some_end : (o : Option ℕ) → IsSome o → (e : ℕ) × (o ≡ Some e)
some_end o some = grind arith

pub one_end : (o : Option ℕ) (e f : ℕ) → o ≡ Some e → o ≡ Some f → e ≡ f
one_end o e f one other = cc (sym one ∙ other)

pub end_cases : (o : Option ℕ) → ((e : ℕ) × (o ≡ Some e)) ⊎ (o ≡ None)
end_cases None = inr refl
end_cases (Some e) = inl (e, refl)
