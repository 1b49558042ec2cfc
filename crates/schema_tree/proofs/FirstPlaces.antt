-- The first of some places, and the fault that tells a reference that leads nowhere.
use Rattle.std.proofs.Common.{◌≡◌, ℕ, List, [], ◌∷◌, Bool, true, false, true≢false, Some, None, refl, sym, ap, ◌∙◌}
use Rattle.std.specs.Prelude.{if◌then◌else◌, is_some}
use Rattle.json_value.specs.Value.{Value}
use Rattle.schema_defs.specs.declared.Setting.{Setting}
use Rattle.schema_defs.specs.Location.{Location}
use Rattle.schema_faults.specs.Faults.{Place, first, bad_references, is_internal}
use Rattle.schema_tree.specs.Fault.{missing_ref, external_ref}
use Rattle.schema_faults.proofs.Roots.{reads_without_faults, fractions_are_floats}
use Rattle.schema_defs.specs.Read.{document_of}
use Rattle.schema_tree.specs.Document.{IsWellFormed, IsReadable, HasFault}

pub none_is_first : (ps : List Place) → None ≡ first ps → ps ≡ []
none_is_first [] h = refl
none_is_first (p ∷ ps) h = cc

-- it is missing, or it leaves the document
pub told_by_its_mark : (v : Value) (l : Location) (q : List ℕ) (b : Bool) → is_internal q ≡ b → IsWellFormed v → first (bad_references v) ≡ Some (l, q)
    → HasFault v (if b then missing_ref l q else external_ref l q)
told_by_its_mark v l q true e w f = (w, f, e)
told_by_its_mark v l q false e w f = (w, f, e)

-- a value without a fault has a reading
pub readable_is_read : (setting : Setting) (v : Value) → IsReadable v → ¬ (document_of setting v ≡ None)
readable_is_read setting v r none = true≢false (sym ((reads_without_faults setting v).1 (r.0.0, fractions_are_floats v r.1)) ∙ ap is_some none)
