-- The members of a value by name.
use Rattle.std.proofs.Common.{◌≡◌, ℕ, List, Bool, true, false, ◌||◌, Some, None, refl, sym, subst, bytes_eq}
use Rattle.std.specs.Prelude.{if◌then◌else◌}
use Rattle.std.specs.List.{list_all}
use Rattle.std.proofs.lemmas.Slice.Eq.{bytes_eq-Decides}
use Rattle.json_value.specs.Value.{Value, Members, member, no_members, has_name, member_at}
use Rattle.schema_defs.specs.Texts.{Relations}
use Rattle.schema_defs.specs.Schema.{Document}
use Rattle.schema_defs.specs.Layer.{MemberPart}
use Rattle.schema_defs.specs.Admits.{admits, member_parts, counts_as_absent}
use Rattle.merge_laws.proofs.Steps.{no_no, and-1, and-2}

module _ (r : Relations) (d : Document) where
  abbrev pub part : List ℕ → Value → MemberPart
  part n w = record { name = n; as_absent = counts_as_absent d.setting w; says = admits r d w }

  none_some : (w : Value) → None ≡ Some w → ⊥
  none_some w h = cc

  pub member_of : (f : MemberPart → Bool) (n : List ℕ) (w : Value) (ms : Members) → list_all f (member_parts r d ms) ≡ true → member_at n ms ≡ Some w → f (part n w) ≡ true
  member_of f n w no_members h e = absurd (none_some w e)
  member_of f n w (member k u ms) h e = go (bytes_eq n k) refl e (member_of f n w ms (and-2 (f (part k u)) _ h))
    where
      go : (b : Bool) → bytes_eq n k ≡ b → (if b then Some u else member_at n ms) ≡ Some w → (member_at n ms ≡ Some w → f (part n w) ≡ true) → f (part n w) ≡ true
      go true q e g = let p : u ≡ w = cc in subst (λ x. f (part x w) ≡ true) (sym ((bytes_eq-Decides n k).0 q)) (subst (λ y. f (part k y) ≡ true) p (and-1 (f (part k u)) _ h))
      go false q e g = g e

  pub value_there : (n : List ℕ) (ms : Members) → has_name n ms ≡ true → (w : Value) × (member_at n ms ≡ Some w)
  value_there n no_members h = no_no h
  value_there n (member k u ms) h = go (bytes_eq n k) h (value_there n ms)
    where
      go : (b : Bool) → (b || has_name n ms) ≡ true → (has_name n ms ≡ true → (w : Value) × (member_at n ms ≡ Some w)) → (w : Value) × ((if b then Some u else member_at n ms) ≡ Some w)
      go true h g = (u, refl)
      go false h g = g h
