-- Which entries lead to an option: those that are one, or that do so through references and transparent newtypes.
use Rattle.std.specs.Prelude.{suc, ◌&&◌, not, List, [], ◌∷◌, length, Bool, false, Option, Some, None, if◌then◌else◌}
use Rattle.entry_defs.specs.Space.{Id, ShapeAt, newtype_shape_at, EntryAt, option_at, reference_at, item_at, Space, entry_at}
use Rattle.emit_defs.specs.Setting.{is_phantom}
use Rattle.use_graph.specs.declared.ends.Next.{Next}
use Rattle.use_graph.specs.declared.ends.Next.TheVariants.{Yes, No, To}
use Rattle.use_graph.specs.Ends.{leads_within}
use Rattle.space_defs.specs.Items.{name_at}

-- `boxed` says of two items whether the first boxes its uses of the second
module _ (space : Space) (boxed : Id → Id → Bool) where
  abbrev pub is_phantom_use : Id → Id → Bool
  is_phantom_use owner used = is_phantom (name_at space used) && not (boxed owner used)

  -- the last name of the type that an item holds is `PhantomData`: the id of what it holds, and the entry there
  abbrev pub phantom_entry : Id → Id → Option EntryAt → Bool
  phantom_entry owner j (Some (reference_at k)) = is_phantom_use owner k
  phantom_entry owner j (Some (item_at n s)) = is_phantom_use owner j
  phantom_entry owner j _ = false

  abbrev pub ends_in_phantom_at : Id → Id → Bool
  ends_in_phantom_at owner j = phantom_entry owner j (entry_at space j)

  -- a newtype without a rule, unless what it holds ends in `PhantomData`
  abbrev pub is_transparent_at : Id → ShapeAt → Bool
  is_transparent_at owner (newtype_shape_at j None) = not (ends_in_phantom_at owner j)
  is_transparent_at owner _ = false

  abbrev pub next_of_item : Id → ShapeAt → Next
  next_of_item i (newtype_shape_at j None) = if ends_in_phantom_at i j then No else To j
  next_of_item i _ = No

  abbrev pub next_of : Id → EntryAt → Next
  next_of i (option_at j) = Yes
  next_of i (reference_at j) = To j
  next_of i (item_at n s) = next_of_item i s
  next_of i _ = No

  abbrev pub nexts_from : Id → Space → List Next
  nexts_from i [] = []
  nexts_from i (e ∷ es) = next_of i e ∷ nexts_from (suc i) es

  abbrev pub leads_at : Id → Bool
  leads_at i = leads_within (nexts_from 0 space) (suc (length space)) i
