-- One schema whose row merges, by what was gathered of its merge.
use Rattle.std.proofs.Common.{◌≡◌, ℕ, suc, List, [], ◌∷◌, ◌++◌, true, false, Option, Some, None, is_some, map, refl, sym, ap, subst, ◌∙◌, append_assoc, true≢false}
use Rattle.schema_defs.specs.Texts.{Relations}
use Rattle.schema_defs.specs.Schema.{Plain, Schema, boolean, object, Document}
use Rattle.entry_defs.specs.Entry.{Entry}
use Rattle.convert_defs.specs.Row.{Row, Part, Finding}
use Rattle.convert_defs.specs.Table.{finding_of, row_of}
use Rattle.merge_defs.specs.Outcome.{Note, Fault, Outcome, fault, never, answer}
use Rattle.merge_walks.specs.Carried.{has_more_steps}
use Rattle.convert_walks.specs.Merging.{merged_at}
use Rattle.convert_walks.specs.Spot.{Spot}
use Rattle.convert_walks.specs.Tree.{Standing, plain_of, answered_as, instead, Node, if_merged, entry_at, row_entry, standing_entry, standing_tree, tree_at, below, merge_of}
use Rattle.convert_walks.specs.Told.{Note as PlacedNote, by_merge, too_deep, placed_note, merge_note, outcome_notes, merge_faults, notes_in}
use Rattle.merged_rows.specs.Rows.{handed_on}
use Rattle.merged_rows.specs.Told as merged
use Rattle.merged_rows.specs.Told.{TellsMerge}
use Rattle.document_merges.specs.Merges.{MergeD, refused, stands, unhanded, merge_of_row, merges_in}
use Rattle.schema_tree.specs.Fault.{FaultD}
use Rattle.convert_trees.specs.Keeping.{KeptD, with_unread}
use Rattle.convert_trees.specs.Unread.{unread_of, unread_in}
use Rattle.convert_trees.specs.Told as told
use Rattle.convert_trees.specs.Told.{AreFine, IsTold, IsToldOf, Refuses, by_none, by_fault, RefusesOf, at_schema, at_parts, Begins, begins}
use Rattle.convert_trees.proofs.Telling.{both_fine, none_of_first, refuses_second, tells_head}
use Rattle.convert_trees.proofs.Here.{node_with, trees, shallow}

-- ---- what stands in place of the schema, by what was kept of it

-- with the name that is handed on
abbrev pub rehanded : Spot → Schema → Standing → Standing
rehanded o s u = record u { spot = record u.spot { handed = handed_on o.handed s u.schema } }

handed_back : (o : Spot) (s : Schema) (p : Option Plain) (m : Schema) → answered_as o s p m ≡ rehanded o s (unhanded (answered_as o s p m))
handed_back o s p (boolean b) = refl
handed_back o s None (object q ss ls ns) = refl
handed_back o s (Some p) (object q ss ls ns) = refl

pub refused_so : (o : Spot) (s : Schema) (e : Fault) (m : Outcome Schema) → refused e ≡ merge_of_row o s m → m ≡ fault e
refused_so o s e (fault f) k = cc
refused_so o s e (never ns) k = absurd (cc)
refused_so o s e (answer ns t) k = absurd (cc)

module _ (r : Relations) (d : Document) (most n : ℕ) (o : Spot) (s : Schema) where
  pub record Stands (m : Outcome Schema) (ns : List Note) (u : Standing) : Type 0 where
    pub instead_is : instead o s m ≡ Some (rehanded o s u)
    pub notes_are : outcome_notes r d most n o (Some m) ≡ map (merge_note o) ns
    pub faultless : merge_faults r d most n o m ≡ []

  answered_so : (p : Option Plain) (t : Schema) (u : Standing) → u ≡ unhanded (answered_as o s p t) → Some (answered_as o s p t) ≡ Some (rehanded o s u)
  answered_so p t u e = ap Some (handed_back o s p t ∙ ap (rehanded o s) (sym e))

  stands_so : (m : Outcome Schema) (ns : List Note) (u : Standing) → stands ns (Some u) ≡ merge_of_row o s m → Stands m ns u
  stands_so (fault f) ns u k = absurd (cc)
  stands_so (never ms) ns u k =
      let e : u ≡ unhanded (answered_as o s (plain_of s) (boolean false)) = cc in
      let g : ms ≡ ns = cc in
      record { instead_is = answered_so (plain_of s) (boolean false) u e; notes_are = ap (map (merge_note o)) g; faultless = refl }
  stands_so (answer ms t) ns u k =
      let e : u ≡ unhanded (answered_as o s (plain_of s) t) = cc in
      let g : ms ≡ ns = cc in
      record { instead_is = answered_so (plain_of s) t u e; notes_are = ap (map (merge_note o)) g; faultless = refl }

  -- ---- the row's outcome

  pub record Merging : Type 0 where
    pub outcome : Outcome Schema
    pub tree_is : tree_at r d most (suc n) o s ≡ node_with r d most n o s (Some outcome) ∷ standing_tree r d most (trees r d most n o s) (instead o s outcome)
    pub entry_is : entry_at r d most (suc n) o s ≡ standing_entry r d most n (λ o s. entry_at r d most n o s) (instead o s outcome)

  merging_by : (m : Option (List Part)) → if_merged (row_of r d s) ≡ m → is_some m ≡ true → has_more_steps most o.walk ≡ false → Merging
  merging_by None e k w = absurd (true≢false (sym k))
  merging_by (Some ps) e k w = record {
    outcome = merged_at d most n o s ps;
    tree_is = shallow r d most n o s w
        ∙ ap (λ m. node_with r d most n o s (merge_of r d most n o s m) ∷ below r d most n (trees r d most n o s) o s (finding_of r d s).branches (row_of r d s) m) e;
    entry_is = ap (λ m. row_entry r d most n (λ o s. entry_at r d most n o s) o s (finding_of r d s).branches (row_of r d s) m) e;
  }

  pub merging : (fd : Finding) → fd ≡ finding_of r d s → has_more_steps most o.walk ≡ false → is_some (if_merged fd.row) ≡ true → Merging
  merging fd e w k = merging_by (if_merged (row_of r d s)) refl (ap (λ (fd : Finding). is_some (if_merged fd.row)) (sym e) ∙ k) w

  module _ (g : Merging) where
    abbrev pub inner : List Node
    inner = standing_tree r d most (trees r d most n o s) (instead o s g.outcome)

    -- ---- the next of the merges that are left is that of the row

    pub record Next (v : MergeD) (left : List MergeD) : Type 0 where
      pub here : v ≡ merge_of_row o s g.outcome
      pub behind : Begins left (merges_in inner)

    pub next_is : (all : List MergeD) (v : MergeD) (left : List MergeD) → Begins all (merges_in (tree_at r d most (suc n) o s)) → all ≡ v ∷ left → Next v left
    next_is all v left b e = by_first (subst (λ (ts : List Node). Begins all (merges_in ts)) g.tree_is b)
      where
        by_first : Begins all (merge_of_row o s g.outcome ∷ merges_in inner) → Next v left
        by_first (begins rest h) =
            let k : v ∷ left ≡ merge_of_row o s g.outcome ∷ (merges_in inner ++ rest) = sym e ∙ h in
            record { here = cc; behind = begins rest (cc) }

    -- ---- refusals

    pub merge_refuses : (f : FaultD) (a b : ℕ) → TellsMerge (merge_faults r d most n o g.outcome) f → Refuses r d most n a b (tree_at r d most (suc n) o s) f
    merge_refuses f a b h = subst (λ (ts : List Node). Refuses r d most n a b ts f) (sym g.tree_is) (by_first h)
      where
        by_first : TellsMerge (merge_faults r d most n o g.outcome) f → Refuses r d most n a b (node_with r d most n o s (Some g.outcome) ∷ inner) f
        by_first (merged.no_memory e) = by_none (told.no_memory e)
        by_first (merged.by_walk l w more e k) = by_fault (tells_head r d most n f (node_with r d most n o s (Some g.outcome)) inner (told.of_reason l (too_deep w) more e k))
        by_first (merged.by_kind l u more e k) = by_fault (tells_head r d most n f (node_with r d most n o s (Some g.outcome)) inner (told.of_reason l (by_merge u) more e k))

    -- ---- what stands there

    module _ (ns : List Note) (u : Standing) (h : stands ns (Some u) ≡ merge_of_row o s g.outcome) where
      abbrev pub standing : Standing
      standing = rehanded o s u

      abbrev pub standing_nodes : List Node
      standing_nodes = tree_at r d most n standing.spot standing.schema

      is_there : Stands g.outcome ns u
      is_there = stands_so g.outcome ns u h

      inner_is : inner ≡ standing_nodes
      inner_is = ap (standing_tree r d most (trees r d most n o s)) is_there.instead_is

      abbrev own : List Node
      own = node_with r d most n o s (Some g.outcome) ∷ []

      own_fine : AreFine r d most n own
      own_fine = record { faultless = ap (λ fs. fs ++ []) is_there.faultless }

      pub standing_begins : (left : List MergeD) → Begins left (merges_in inner) → Begins left (merges_in standing_nodes)
      standing_begins left b = subst (λ (ts : List Node). Begins left (merges_in ts)) inner_is b

      -- no answer at the schema's own place, or what is told of what stands there
      pub standing_refuses : (f : FaultD) (a b : ℕ) → RefusesOf r d most n o.path a b standing_nodes f → Refuses r d most n a b (tree_at r d most (suc n) o s) f
      standing_refuses f a b (at_schema k) = subst (λ (ts : List Node). Refuses r d most n a b ts f) (sym g.tree_is) (by_none (none_of_first f a b own inner k))
      standing_refuses f a b (at_parts k) =
          subst (λ (ts : List Node). Refuses r d most n a b ts f) (sym g.tree_is)
          (refuses_second r d most n f a b own inner own_fine (subst (λ (ts : List Node). Refuses r d most n a b ts f) (sym inner_is) k))

      pub standing_entry_is : (x : Entry) → x ≡ entry_at r d most n standing.spot standing.schema → x ≡ entry_at r d most (suc n) o s
      standing_entry_is x e = e ∙ ap (standing_entry r d most n (λ o s. entry_at r d most n o s)) (sym is_there.instead_is) ∙ sym g.entry_is

      abbrev row_notes : List PlacedNote
      row_notes = map (placed_note o (finding_of r d s).branches) (finding_of r d s).notes

      all_told : (w : Row) (x : Entry) (j k l : KeptD) → w ≡ row_of r d s → x ≡ entry_at r d most (suc n) o s → k.notes ≡ (j.notes ++ row_notes) ++ map (merge_note o) ns → k.values ≡ j.values
          → j.merges ≡ stands ns (Some u) ∷ k.merges → IsToldOf r d most n o.path s w x inner k l → IsTold r d most n (own ++ inner) j l
      all_told w x j k l e h a v m t = record {
        fine = both_fine r d most n own inner own_fine t.fine;
        notes = t.notes ∙ ap (λ ks. ks ++ notes_in r d most n inner) a
            ∙ ap (λ ks. ks ++ notes_in r d most n inner) (append_assoc j.notes row_notes (map (merge_note o) ns))
            ∙ ap (λ ks. (j.notes ++ (row_notes ++ ks)) ++ notes_in r d most n inner) (sym is_there.notes_are)
            ∙ append_assoc j.notes (row_notes ++ outcome_notes r d most n o (Some g.outcome)) (notes_in r d most n inner);
        values = t.values ∙ ap (λ v. with_unread (unread_of r v.known o.path s w x ++ unread_in r v.known d inner) v) v
            ∙ (λ i. with_unread (unread_of r j.values.known o.path s (e i) (h i) ++ unread_in r j.values.known d inner) j.values);
        merges = λ rest q. t.merges rest (others rest q);
      }
        where
          others : (rest : List MergeD) → j.merges ≡ merge_of_row o s g.outcome ∷ (merges_in inner ++ rest) → k.merges ≡ merges_in inner ++ rest
          others rest q =
              let z : stands ns (Some u) ∷ k.merges ≡ merge_of_row o s g.outcome ∷ (merges_in inner ++ rest) = sym m ∙ q in
              cc

      pub standing_told : (fd : Finding) (x : Entry) (j k l : KeptD) → fd ≡ finding_of r d s → x ≡ entry_at r d most (suc n) o s → k.notes ≡ (j.notes ++ map (placed_note o fd.branches) fd.notes) ++ map (merge_note o) ns → k.values ≡ j.values
          → j.merges ≡ stands ns (Some u) ∷ k.merges → IsToldOf r d most n o.path s fd.row x standing_nodes k l → IsTold r d most n (tree_at r d most (suc n) o s) j l
      standing_told fd x j k l e h a v m t =
          subst (λ (ts : List Node). IsTold r d most n ts j l) (sym g.tree_is)
          (all_told fd.row x j k l (ap (λ (fd : Finding). fd.row) e) h (a ∙ ap (λ (fd : Finding). (j.notes ++ map (placed_note o fd.branches) fd.notes) ++ map (merge_note o) ns) e) v m
          (subst (λ (ts : List Node). IsToldOf r d most n o.path s fd.row x ts k l) (sym inner_is) t))
