-- The integer types that the program names.
use Rattle.entry_defs.specs.Entry as defs
use Rattle.entry_defs.specs.Entry.{IntegerName}
use Rattle.type_trees.specs.declared.built_in.IntegerName as program
use Rattle.type_trees.specs.declared.built_in.IntegerName.TheVariants as integers

abbrev pub integer_view : program.IntegerName → IntegerName
integer_view integers.I8 = defs.i8
integer_view integers.U8 = defs.u8
integer_view integers.I16 = defs.i16
integer_view integers.U16 = defs.u16
integer_view integers.I32 = defs.i32
integer_view integers.U32 = defs.u32
integer_view integers.I64 = defs.i64
integer_view integers.U64 = defs.u64
integer_view integers.NonZeroU8 = defs.nonzero_u8
integer_view integers.NonZeroU16 = defs.nonzero_u16
integer_view integers.NonZeroU32 = defs.nonzero_u32
integer_view integers.NonZeroU64 = defs.nonzero_u64
