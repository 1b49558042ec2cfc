-- What is written of what was read is read again, by emitted tables.
use Rattle.std.proofs.Common.{◌≡◌, List, true, sym, subst}
use Rattle.schema_defs.specs.Texts.{Relations}
use Rattle.model_defs.specs.Model.{ContainerModel}
use Rattle.typed_defs.specs.Written.{written}
use Rattle.reading_defs.specs.Reading.{taken, reading}
use Rattle.reading_defs.specs.Laws.{IsProper, defaults_are_sound}
use Rattle.writing_laws.proofs.Again as again
use Rattle.writing_laws.proofs.Settled as settling
use Rattle.entry_defs.specs.Table.{Table, items_of}
use Rattle.emit_defs.specs.Setting.{setting_of}
use Rattle.emit_defs.specs.Models.{conversions_of_items}
use Rattle.emit_defs.specs.Emission.{models_of}
use Rattle.emit_defs.specs.Formed.{IsEmittable}
use Rattle.emit_texts.proofs.Functions.{functions_are_read}
use Rattle.emit_texts.proofs.Types.{types_are_read_again}
use Rattle.emit_laws.proofs.Assembled.{items_are_read}
use Rattle.emit_laws.proofs.Whole.{OfItem, OfReference, shapes_named}
use Rattle.emitted_back.specs.Laws.{IsWrittenApart, EmittedIsReadBack, EmittedIsWrittenBack, EmittedSettledIsReadAlike, ItemsAreWrittenBack}
use Rattle.emitted_back.proofs.Containers.{items_fit, items_back, items_shaped, items_ruled}

pub emitted_is_read_back : EmittedIsReadBack
emitted_is_read_back t h w = record {
  fit = items_fit (OfItem t h) (OfReference t h) (setting_of t) (items_of t) 0;
  names = items_back (OfItem t h) (OfReference t h) (setting_of t) (items_of t) 0 h.formed.items (shapes_named t h) w.variants;
  kinds = w.kinds;
  rules = w.rules;
  numbers = w.numbers;
  ordered = w.ordered;
}

pub emitted_is_written_back : EmittedIsWrittenBack
emitted_is_written_back t h w r ty v x n o e = again.written_is_read_back (models_of t) (conversions_of_items (items_of t)) r (emitted_is_read_back t h w) ty v x n o e

-- the containers are as the law on reading asks
pub emitted_is_proper : (t : Table) → IsEmittable t → IsWrittenApart t → (r : Relations) → defaults_are_sound (models_of t) (conversions_of_items (items_of t)) r ≡ true → IsProper (models_of t) (conversions_of_items (items_of t)) r
emitted_is_proper t h w r sound = record {
  fit = items_fit (OfItem t h) (OfReference t h) (setting_of t) (items_of t) 0;
  shapes = items_shaped (setting_of t) (items_of t) 0;
  rules = items_ruled (setting_of t) (items_of t) 0;
  numbers = w.numbers;
  sound = sound;
}

pub emitted_settled_is_read_alike : EmittedSettledIsReadAlike
emitted_settled_is_read_alike t h w r sound ty v n o e =
    settling.settled_is_read_alike (models_of t) (conversions_of_items (items_of t)) r (emitted_is_proper t h w r sound) (emitted_is_read_back t h w) ty v n o e

pub items_are_written_back : ItemsAreWrittenBack
items_are_written_back variant_name field_name private derive t h w e r ty v x n o =
    subst (λ (ms : List ContainerModel). reading ms (conversions_of_items (items_of t)) r ty v ≡ taken x → reading ms (conversions_of_items (items_of t)) r ty (written ms ty x) ≡ taken x)
    (sym (items_are_read functions_are_read types_are_read_again variant_name field_name private derive t h e))
    (emitted_is_written_back t h w r ty v x n o)
