-- One more that is kept.
use Rattle.std.proofs.Common.{◌≡◌, ℕ, List, Bool, true, false, cond, Option, Some, string_bytes, bytes_eq, refl, sym, ap, ◌∙◌}
use Rattle.std.specs.BTreeMap.{BTreeMap, UpdatesBy, get_by_text}
use Rattle.std.specs.Cmp.Lexicographic.{slice_cmp}
use Rattle.std.specs.Ordering.{nat_cmp}
use Rattle.std.specs.String.{string_cmp}
use Rattle.std.specs.declared.string.String.{String}
use Rattle.std.proofs.lemmas.Map.Text.{btree_map_updates_text}
use Rattle.std.proofs.lemmas.Option.{same_Some}
use Rattle.std.proofs.lemmas.Slice.Eq.{bytes_eq-Decides}
use Rattle.schema_defs.specs.Schema.{Document}
use Rattle.enum_defs.specs.declared.KindSet.{KindSet}
use Rattle.enum_defs.specs.Kinds.{kinds_beyond}
use Rattle.enum_kinds.specs.Kept.{kept_of, AreKept}

module _ {Y : Type 0} (d : Document) (was : Option (BTreeMap (String Y) KindSet)) (old new : BTreeMap (String Y) KindSet) (key : List ℕ) (x : KindSet) where
  pub one_kept : UpdatesBy string_cmp (λ k. slice_cmp nat_cmp key (string_bytes k)) old new (Some x) → ((q : List ℕ) → get_by_text old q ≡ kept_of was q) → kinds_beyond d key ≡ x
      → AreKept d was → AreKept d (Some new)
  one_kept u same here before q k e = by (bytes_eq key q) refl (sym (btree_map_updates_text key old new (Some x) u q) ∙ e)
    where
      by : (b : Bool) → bytes_eq key q ≡ b → cond b (Some x) (get_by_text old q) ≡ Some k → kinds_beyond d q ≡ k
      by true s f = ap (kinds_beyond d) (sym ((bytes_eq-Decides key q).0 s)) ∙ here ∙ same_Some x k f
      by false s f = before q k (sym (same q) ∙ f)
