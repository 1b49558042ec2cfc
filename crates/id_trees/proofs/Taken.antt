-- What stands at the ids of the tables that a space comes to, and what it takes.
use Rattle.std.proofs.Common.{◌≡◌, inl, ℕ, Some, ap, ◌∙◌}
use Rattle.schema_defs.specs.Texts.{Relations}
use Rattle.schema_defs.specs.Schema.{Document}
use Rattle.entry_defs.specs.Entry.{Entry, item}
use Rattle.entry_defs.specs.Space.{Id}
use Rattle.entry_defs.specs.Table.{Table}
use Rattle.convert_defs.proofs.Keeps.{keep-to}
use Rattle.convert_walks.specs.Tree.{entry_at}
use Rattle.document_laws.specs.Laws.{WasRead}
use Rattle.space_trees.specs.Filled.{leads_in}
use Rattle.entry_laws.specs.Laws.{IdsTakeTrees}
use Rattle.history_laws.specs.Placing.{with_names, entries_of, target_id, with_tree, next_named, next_id}
use Rattle.history_laws.specs.Added.{begins_at}
use Rattle.history_laws.specs.Laws.{ComesAbout, by_schema, ComesSince, at_once, after_schema, StandsAt}
use Rattle.history_laws.proofs.Agreed.{schemas_agree, items_agree}
use Rattle.history_laws.proofs.Coming.{is-fit, is-sound, is-formed}
use Rattle.history_laws.proofs.Targeted.{alone, leads-there}
use Rattle.history_laws.proofs.Told.{tables_are_held, schemas_stand, items_stand}
use Rattle.id_trees.specs.Laws.{IdsHaveTrees, IdsTakeTheirTrees, SchemasMeanIds, ItemsMeanIds}
use Rattle.id_trees.proofs.Targets.{all-trees}

pub ids_have_trees : IdsHaveTrees
ids_have_trees r d depth n w t c =
    let formed = is-formed r d depth n t c in
    all-trees (with_names t) (leads-there (with_names t)) (is-sound r d depth n w t c) formed (alone t (is-fit r d depth n w t c) formed)

pub ids_take_their_trees : IdsTakeTrees → IdsTakeTheirTrees
ids_take_their_trees law r d depth n w t c q e i s v = law (leads_in (with_names t)) (entries_of t) (with_names t) (tables_are_held r d depth n w t c) q e i s v

-- what stands at an id does so whatever comes
module _ (r : Relations) (d : Document) (depth n : ℕ) (w : WasRead d) (t : Table) (c : ComesAbout r d depth n t) (y : Entry) (i : Id) (h : StandsAt t y i) where
  stays : (u : Table) → ComesSince r d depth n t u → ComesAbout r d depth n u × StandsAt u y i
  stays _ at_once = (c, h)
  stays _ (after_schema u at k s b e) =
      let x = stays u b in
      (by_schema u at k s x.0 e, (schemas_stand r d depth n w u x.0 at k s e).kept y i x.1)

pub schemas_mean_ids : IdsTakeTrees → SchemasMeanIds
schemas_mean_ids law way r lawful d depth n w c t about at h s e a u since v small =
    let x = entry_at r d depth n (begins_at at h) s in
    let now = stays r d depth n w (with_tree t x) (by_schema t at h s about e) (next_named t x) (next_id t x) (schemas_stand r d depth n w t about at h s e).stands u since in
    keep-to way _ _ _ (schemas_agree way r lawful d depth n w c t u now.0 at h s e a v small).itself
    (ids_take_their_trees law r d depth n w u now.0 r (next_named t x) (next_id t x) (inl now.1) v)

pub items_mean_ids : IdsTakeTrees → ItemsMeanIds
items_mean_ids law way r lawful d depth n w c t about at q s e k v small =
    let j = items_stand r d depth n w t about at q e in
    keep-to way _ _ _ (items_agree way r lawful d depth n w c t about at q s e k j.0 j.1 v small)
    (ids_take_their_trees law r d depth n w t about r (item j.0.name j.0.shape) (target_id t q) (inl j.2) v)
