use Rattle.emit_defs.proofs.SoundTables.{sound_18, formed_18, sound_20, formed_20, sound_chain, formed_chain}
use Rattle.emit_defs.proofs.examples.sound_tables.Goals as goal

pub returns : goal.returns
returns c = record {
  sound_18 = sound_18;
  formed_18 = formed_18;
  sound_20 = sound_20;
  formed_20 = formed_20;
  sound_chain = sound_chain;
  formed_chain = formed_chain;
}
