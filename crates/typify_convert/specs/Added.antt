-- What comes to a space: the items that references lead to, or one more schema.
use Rattle.std.specs.Prelude.{◌≡◌, ℕ, zero, List, [], ◌∷◌, ◌++◌, Option, Some, None}
use Rattle.schema_defs.specs.Location.{Location}
use Rattle.schema_defs.specs.Texts.{Relations}
use Rattle.schema_defs.specs.Schema.{Schema, Document}
use Rattle.schema_defs.specs.Children.{schema_at}
use Rattle.entry_defs.specs.Entry.{Target, Entry}
use Rattle.entry_defs.specs.Space.{Id}
use Rattle.convert_defs.specs.Convert.{Handed}
use Rattle.convert_walks.specs.Tree.{Node}
use Rattle.convert_walks.specs.Told.{notes_in}
use Rattle.convert_document.specs.Unread.{At, unread_in}
use Rattle.history_laws.specs.Placing.{with_tree, target_id, next_id}
use Rattle.history_laws.specs.Added.{target_at, target_nodes, targets_table, schema_entry, schema_nodes}
use Rattle.typify_convert.specs.Space.{History, Keeps}
use Rattle.typify_convert.specs.declared.keeping.Held.{Held}
use Rattle.typify_convert.specs.declared.space.TypeSpace.{TypeSpace}

-- ---- the items that references lead to, and one more schema, where walks have at most so many steps, and there are n levels

module _ (r : Relations) (d : Document) (depth n : ℕ) where
  abbrev pub with_targets : History → History
  with_targets h = record {
    table = targets_table r d depth n;
    notes = h.notes ++ notes_in r d depth n (target_nodes r d depth n);
    unread = h.unread ++ unread_in r (Some (targets_table r d depth n)) d (target_nodes r d depth n);
  }

  -- with the tree of a schema, and what its nodes tell; what they list is asked by the items that references lead to
  abbrev pub with_nodes : Entry → List Node → History → History
  with_nodes e ts h = record {
    table = with_tree h.table e;
    notes = h.notes ++ notes_in r d depth n ts;
    unread = h.unread ++ unread_in r (Some (targets_table r d depth n)) d ts;
  }

  -- those items are converted once more, where anything is stated
  abbrev pub items_asked : List At → List Node
  items_asked [] = []
  items_asked (u ∷ us) = target_nodes r d depth n

  abbrev pub with_items_asked : List Node → List Node
  with_items_asked ts = ts ++ items_asked (unread_in r None d ts)

module _ (r : Relations) (d : Document) (depth n : ℕ) (at : Location) (name : Handed) where
  -- with the id of it; nothing is converted where it has an item
  abbrev pub added_by : Option Target → Option Schema → History → History × Id
  added_by (Some q) o h = (h, target_id h.table q)
  added_by None (Some s) h =
      (with_nodes r d depth n (schema_entry r d depth n at name s) (schema_nodes r d depth n at name s) h, next_id h.table (schema_entry r d depth n at name s))
  added_by None None h = (h, zero)

  abbrev pub added : History → History × Id
  added h = added_by (target_at d at) (schema_at d at) h

  -- the schemas that it stands for
  abbrev pub nodes_by : Option Target → Option Schema → List Node
  nodes_by None (Some s) = schema_nodes r d depth n at name s
  nodes_by _ _ = []

  abbrev pub added_nodes : List Node
  added_nodes = nodes_by (target_at d at) (schema_at d at)

  -- all that are converted
  abbrev pub met_nodes : List Node
  met_nodes = with_items_asked r d depth n added_nodes

-- it is kept, and the id is that
pub record KeepsMore (k : Held) (i : Id) (made : History × Id) : Type 0 where
  pub keeps : Keeps k made.0
  pub id : i ≡ made.1

abbrev pub Adds : TypeSpace → Id → History × Id → Type 0
Adds s i made = KeepsMore s.held i made
