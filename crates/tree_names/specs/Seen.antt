-- Naming part by part: what each step gives, and the names that are taken after it.
use Rattle.std.specs.Prelude.{ℕ, Bool, List, [], ◌∷◌, map, Option, Some, None, option_map}
use Rattle.model_defs.specs.Model.{TagModel}
use Rattle.entry_defs.specs.Entry.{State, Entry, any_entry, item, Shape, Entries, no_entries, entry_then, entry_again, Fields, field_then, field_again, Variants, no_variants, variant_then, Contents, unit_contents, newtype_contents, tuple_contents, struct_contents, no_fields}
use Rattle.naming_defs.specs.Names.{Names, is_value, values, bound, bound_is_good, field_name, variant_name, name_by, named, named_fields, named_shape}
use Rattle.naming_defs.specs.Good.{is_good_name}
use Rattle.entry_defs.specs.Table.{ItemEntry, TargetEntry}
use Rattle.good_names.specs.Given.{Named, item_given}
use Rattle.row_findings.specs.View.{state_view}
use Rattle.tree_types.specs.View.{label_view, tree_view}
use Rattle.std.specs.declared.alloc.Global.{Global}
use Rattle.std.specs.declared.vec.Vec.{Vec}
use Rattle.tree_types.specs.declared.tree.FieldHead.{FieldHead}
use Rattle.tree_types.specs.declared.tree.VariantHead.{VariantHead}
use Rattle.tree_types.specs.declared.tree.ContentKind.{ContentKind}
use Rattle.tree_types.specs.declared.tree.ContentKind.TheVariants as kinds
use Rattle.tree_types.specs.declared.tree.Tree.{Tree}

abbrev pub each : {X Y : Type 0} → (X → Names → Named Y) → List X → Names → Named (List Y)
each f [] t = (t, [])
each f (x ∷ xs) t = let a = f x t in let b = each f xs a.0 in (b.0, a.1 ∷ b.1)

-- ---- parts

pub record PartD : Type 0 where
  pub identifier : List ℕ
  pub name : List ℕ
  pub state : State
  pub entry : Option Entry

abbrev pub part_view : FieldHead × Option Tree → PartD
part_view p = record { identifier = label_view p.0.label; name = p.0.label.wanted.now; state = state_view p.0.state; entry = option_map tree_view p.1 }

abbrev pub places_of : List PartD → Entries
places_of [] = no_entries
places_of (p ∷ ps) = elim p.entry [ None ↦ entry_again (places_of ps) | Some e ↦ entry_then e (places_of ps) ]

abbrev pub fields_of : List PartD → Fields → Fields
fields_of [] more = more
fields_of (p ∷ ps) more = elim p.entry [ None ↦ field_again p.identifier p.name (fields_of ps more) | Some e ↦ field_then p.identifier p.name e p.state (fields_of ps more) ]

abbrev pub first_of : List PartD → Entry
first_of [] = any_entry
first_of (p ∷ ps) = elim p.entry [ None ↦ any_entry | Some e ↦ e ]

abbrev pub contents_of : ContentKind → List PartD → Contents
contents_of kinds.Unit ps = unit_contents
contents_of kinds.Newtype ps = newtype_contents (first_of ps)
contents_of kinds.Tuple ps = tuple_contents (places_of ps)
contents_of kinds.Struct ps = struct_contents (fields_of ps no_fields)

-- the items of a part are named
abbrev pub part_named : PartD → Names → Names → Named PartD
part_named p beside t = elim p.entry [ None ↦ (t, p) | Some e ↦ (let a = named is_good_name beside e t in (a.0, record p { entry = Some a.1 })) ]

-- a part is identified within its container, by a name that fits
abbrev pub part_identified_by : (List ℕ → Bool) → PartD → Names → Names → Named PartD
part_identified_by fits p beside t = let n = field_name fits t beside p.name in (n ∷ t, record p { identifier = n })

abbrev pub part_identified : PartD → Names → Names → Named PartD
part_identified p beside t = part_identified_by is_good_name p beside t

-- where patterns bind it
abbrev pub part_bound : PartD → Names → Names → Named PartD
part_bound p beside t = part_identified_by (bound_is_good is_good_name) p beside t

abbrev pub names_of : List PartD → Names
names_of ps = map (λ p. p.name) ps

abbrev pub identifiers_of : List PartD → Names
identifiers_of ps = map (λ p. p.identifier) ps

abbrev pub parts_named : List PartD → Names → Names → Named (List PartD)
parts_named ps beside t = each (λ p. part_named p beside) ps t

abbrev pub parts_identified_by : (List ℕ → Bool) → List PartD → Names → Names → Named (List PartD)
parts_identified_by fits ps beside t = each (λ p. part_identified_by fits p beside) ps t

abbrev pub parts_identified : List PartD → Names → Names → Named (List PartD)
parts_identified ps beside t = each (λ p. part_identified p beside) ps t

abbrev pub parts_bound : List PartD → Names → Names → Named (List PartD)
parts_bound ps beside t = each (λ p. part_bound p beside) ps t

-- the first part alone
abbrev pub front_named : List PartD → Names → Names → Named (List PartD)
front_named [] beside t = (t, [])
front_named (p ∷ ps) beside t = parts_named (p ∷ []) beside t

abbrev pub contents_named : ContentKind → List PartD → Names → Names → Named (List PartD)
contents_named kinds.Unit ps beside t = (t, [])
contents_named kinds.Newtype ps beside t = front_named ps beside t
contents_named kinds.Tuple ps beside t = parts_named ps beside t
contents_named kinds.Struct ps beside t =
    let a = parts_named ps beside t in let c = (parts_bound a.1 (names_of a.1) (values a.0)).1 in
    (bound (identifiers_of c) a.0, c)

-- ---- entries

abbrev pub entry_named : Entry → Names → Names → Named Entry
entry_named e beside t = named is_good_name beside e t

abbrev pub rest_named : Fields → Names → Names → Named Fields
rest_named fs beside t = named_fields is_good_name beside fs t

-- an item that has its name
abbrev pub item_named : List ℕ → Shape → Names → Names → Named Entry
item_named n h beside t = let a = named_shape is_good_name beside h t in (a.0, item n a.1)

-- ---- variants

pub record VariantD : Type 0 where
  pub identifier : List ℕ
  pub wanted : List ℕ
  pub kind : ContentKind
  pub parts : List PartD

abbrev pub variant_view : VariantHead × Vec (FieldHead × Option Tree) Global → VariantD
variant_view w = record { identifier = label_view w.0.label; wanted = w.0.label.wanted.now; kind = w.0.kind; parts = map part_view w.1.items }

abbrev pub variants_of : TagModel → List VariantD → Variants
variants_of tag [] = no_variants
variants_of tag (w ∷ ws) = variant_then w.identifier (name_by tag w.identifier w.wanted) (contents_of w.kind w.parts) (variants_of tag ws)

abbrev pub variant_named : VariantD → Names → Names → Named VariantD
variant_named w beside t = let a = contents_named w.kind w.parts beside t in (a.0, record w { parts = a.1 })

abbrev pub variants_named : List VariantD → Names → Names → Named (List VariantD)
variants_named ws beside t = each (λ w. variant_named w beside) ws t

abbrev pub name_in : TagModel → VariantD → List ℕ
name_in tag w = name_by tag w.identifier w.wanted

abbrev pub variant_given : TagModel → List ℕ → Names → Names → Named (List ℕ)
variant_given tag wanted beside t = let n = variant_name is_good_name tag t beside wanted in (n ∷ t, n)

abbrev pub variant_identified : TagModel → VariantD → Names → Names → Named VariantD
variant_identified tag w beside t = let n = variant_name is_good_name tag t beside (name_in tag w) in (n ∷ t, record w { identifier = n })

abbrev pub variants_identified : TagModel → List VariantD → Names → Names → Named (List VariantD)
variants_identified tag ws beside t = each (λ w. variant_identified tag w beside) ws t

-- ---- tables

-- the name of an item, whatever it holds
abbrev pub item_given_to : ItemEntry → Names → Names → Named (List ℕ)
item_given_to i = item_given (is_value i.shape) i.name

-- the names of the items that references lead to
abbrev pub targets_given : List TargetEntry → Names → Names → Named Names
targets_given xs beside t = each (λ x. item_given_to x.led_to beside) xs t

-- what such an item of that name holds
abbrev pub target_named : TargetEntry × List ℕ → Names → Names → Named TargetEntry
target_named p beside t =
    let a = named_shape is_good_name beside p.0.led_to.shape t in (a.0, record { target = p.0.target; led_to = record { name = p.1; shape = a.1 } })

abbrev pub with_names : List TargetEntry → Names → List (TargetEntry × List ℕ)
with_names (x ∷ xs) (n ∷ ns) = (x, n) ∷ with_names xs ns
with_names _ _ = []

abbrev pub targets_named : List (TargetEntry × List ℕ) → Names → Names → Named (List TargetEntry)
targets_named ps beside t = each (λ p. target_named p beside) ps t

abbrev pub trees_named : List Entry → Names → Names → Named (List Entry)
trees_named es beside t = each (λ e. entry_named e beside) es t
