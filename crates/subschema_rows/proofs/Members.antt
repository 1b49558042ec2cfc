-- Lists of members.
use Rattle.std.proofs.Common.{◌≡◌, ℕ, suc, length, arith, subst, List, [], ◌∷◌, map, Option, Some, None, refl, sym, ap, ◌∙◌}
use Rattle.schema_defs.specs.Location.{Step}
use Rattle.schema_defs.specs.Schema.{Schema, schemas}
use Rattle.schema_defs.specs.Schema.{Document}
use Rattle.convert_defs.specs.Row.{plainly, as_it_is_row, merged_row, leaf_row}
use Rattle.convert_defs.specs.Scalars.{never_entry}
use Rattle.convert_defs.specs.Shapes.{Member, members_from, schemas_of, option_member}
use Rattle.member_rows.specs.declared.members.Member as given
use Rattle.member_rows.specs.Members.{member_view}
use Rattle.convert_defs.specs.Table.{only_member, all_of_finding, any_of_finding, any_of_others, lone_part, member_part}

pub schemas_seen : (k : Step) (i : ℕ) (ss : List Schema) → schemas_of (members_from k i (schemas ss)) ≡ ss
schemas_seen k i [] = refl
schemas_seen k i (s ∷ ss) = ap (λ ts. s ∷ ts) (schemas_seen k (suc i) ss)

none-some : {A : Type 0} {x : A} → Some x ≡ None → ⊥
none-some h = cc

pub all_of_only : (ms : List Member) (m : Member) → Some m ≡ only_member ms → plainly (as_it_is_row (lone_part m)) ≡ all_of_finding ms
all_of_only [] m h = absurd (none-some h)
all_of_only (n ∷ []) m h = ap (λ o. plainly (as_it_is_row (lone_part (or-else m o)))) h
  where
    or-else : Member → Option Member → Member
    or-else d None = d
    or-else d (Some x) = x
all_of_only (n ∷ o ∷ ms) m h = absurd (none-some h)

pub all_of_others : (ms : List Member) → None ≡ only_member ms → plainly (merged_row (map member_part ms)) ≡ all_of_finding ms
all_of_others [] h = refl
all_of_others (n ∷ []) h = absurd (none-some (sym h))
all_of_others (n ∷ o ∷ ms) h = refl

no_more_than_none : (n : ℕ) → suc n ≡ 0 → ⊥
no_more_than_none n h = omega arith

pub any_none : (d : Document) (name : List ℕ) (ms : List given.Member) → length ms ≡ 0 → plainly (leaf_row (never_entry name)) ≡ any_of_finding d name (map member_view ms)
any_none d name [] h = refl
any_none d name (m ∷ ms) h = absurd (no_more_than_none (length ms) h)

pub any_some : (d : Document) (name : List ℕ) (xs : List given.Member) (m : given.Member) (rest : List given.Member) → xs ≡ m ∷ rest
    → any_of_others d name (map member_view xs) (option_member (map member_view xs)) ≡ any_of_finding d name (map member_view xs)
any_some d name xs m rest h = subst (λ ys. any_of_others d name (map member_view ys) (option_member (map member_view ys)) ≡ any_of_finding d name (map member_view ys)) (sym h) refl
