-- What is told of an outcome whose notes are put in order.
use Rattle.std.proofs.Common.{◌≡◌, List, [], Option, None, Some, option_map, sym, ap, ◌∙◌, subst}
use Rattle.std.specs.Prelude.{Result, Ok, Err, IfOk}
use Rattle.schema_defs.specs.Location.{Location}
use Rattle.schema_defs.specs.Mapped.{mapped}
use Rattle.schema_defs.specs.Schema.{Schema}
use Rattle.schema_types.specs.declared.schema.Schema as tree
use Rattle.schema_types.specs.View.{schema_view}
use Rattle.schema_tree.specs.declared.fault.Fault.{Fault}
use Rattle.merge_defs.specs.Outcome.{Note, Outcome, fault, never, answer}
use Rattle.merge_parts.specs.declared.fault.MergeFault.{MergeFault}
use Rattle.merge_parts.specs.Steps.{Steps}
use Rattle.merge_walks.specs.Told.{PlacedNote, told, told_at, unmark}
use Rattle.schema_merge.specs.declared.told.Merged.{Merged}
use Rattle.schema_merge.specs.Ordered.{ordered, ordered_notes}
use Rattle.schema_merge.specs.View.{merged_view, placed_at}

in_order : (l : Location) (o : Outcome Schema) (ns : List Note) (x : Option Schema) → Steps [] ns o x
    → told_at l (ordered o) ≡ told (record { schema = option_map (mapped unmark) x; notes = placed_at l (ordered_notes ns) })
in_order l (fault f) ns None s = let h = s.told in absurd (cc)
in_order l (fault f) ns (Some b) s = let h = s.told in absurd (cc)
in_order l (never ms) ns None s = let h = s.told in let e : ms ≡ ns = cc in ap (λ ks. told (record { schema = None; notes = placed_at l (ordered_notes ks) })) e
in_order l (never ms) ns (Some b) s = let h = s.told in absurd (cc)
in_order l (answer ms a) ns None s = let h = s.told in absurd (cc)
in_order l (answer ms a) ns (Some b) s =
    let h = s.told in
    let e : ms ≡ ns = cc in
    let g : a ≡ b = cc in
    λ i. told (record { schema = Some (mapped unmark (g i)); notes = placed_at l (ordered_notes (e i)) })

pub told_so : (l : Location) (o : Outcome Schema) (ns ms : List Note) (x y : Option Schema) (ps : List PlacedNote) → Steps [] ns o x → y ≡ option_map (mapped unmark) x → ms ≡ ordered_notes ns
    → ps ≡ placed_at l ms → told_at l (ordered o) ≡ told (record { schema = y; notes = ps })
told_so l o ns ms x y ps s e f g = in_order l o ns x s ∙ (λ i. told (record { schema = sym e i; notes = sym (g ∙ ap (placed_at l) f) i }))

-- what was found of one outcome is told of one that is the same
pub answers : (r : Result Merged Fault) (found : Result (Option tree.Schema) MergeFault) (l place : Location) (before ns : List Note) (o p : Outcome Schema) → l ≡ place → before ≡ [] → o ≡ p
    → IfOk found (λ x. Steps before ns o (option_map schema_view x))
    → IfOk r (λ m. (q : Outcome Schema) → IfOk found (λ x. Steps [] ns q (option_map schema_view x)) → told_at l (ordered q) ≡ told (merged_view m))
    → IfOk r (λ m. told_at place (ordered p) ≡ told (merged_view m))
answers (Err f) found l place before ns o p e b g h k = tt
answers (Ok m) found l place before ns o p e b g h k =
    subst (λ t. told_at t (ordered p) ≡ told (merged_view m)) e (k p (subst (λ t. t) (λ i. IfOk found (λ x. Steps (b i) ns (g i) (option_map schema_view x))) h))
