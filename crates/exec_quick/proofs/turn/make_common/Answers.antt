use Rattle.std.proofs.Common.{ap, refl}
use Rattle.exec_quick.specs.QuickForms.{has_register_first}
use Rattle.exec_quick.proofs.Arms.{alone, in_window, is_8, is_16, is_32, is_64, own, own_alone}
use Rattle.exec_quick.proofs.turn.make_common.Goals as goal

pub combine-requires : goal.combine-requires
combine-requires c = record {
  ready = c.requires.ready;
  width = is_64;
  register = c.requires.register (ap has_register_first c.in-Add64.is);
}

pub returns-in-Add64 : goal.returns-in-Add64
returns-in-Add64 c =
    alone c.in-Add64.is refl refl c.requires.window c.combine.ensures.made c.combine.ensures.left
    c.combine.ensures.memory c.combine.ensures.privilege

pub combine-requires-in-Add32 : goal.combine-requires-in-Add32
combine-requires-in-Add32 c = record {
  ready = c.requires.ready;
  width = is_32;
  register = c.requires.register (ap has_register_first c.in-Add32.is);
}

pub returns-in-Add32 : goal.returns-in-Add32
returns-in-Add32 c =
    alone c.in-Add32.is refl refl c.requires.window c.combine-in-Add32.ensures.made c.combine-in-Add32.ensures.left
    c.combine-in-Add32.ensures.memory c.combine-in-Add32.ensures.privilege

pub combine-requires-in-Sub64 : goal.combine-requires-in-Sub64
combine-requires-in-Sub64 c = record {
  ready = c.requires.ready;
  width = is_64;
  register = c.requires.register (ap has_register_first c.in-Sub64.is);
}

pub returns-in-Sub64 : goal.returns-in-Sub64
returns-in-Sub64 c =
    alone c.in-Sub64.is refl refl c.requires.window c.combine-in-Sub64.ensures.made c.combine-in-Sub64.ensures.left
    c.combine-in-Sub64.ensures.memory c.combine-in-Sub64.ensures.privilege

pub combine-requires-in-Sub32 : goal.combine-requires-in-Sub32
combine-requires-in-Sub32 c = record {
  ready = c.requires.ready;
  width = is_32;
  register = c.requires.register (ap has_register_first c.in-Sub32.is);
}

pub returns-in-Sub32 : goal.returns-in-Sub32
returns-in-Sub32 c =
    alone c.in-Sub32.is refl refl c.requires.window c.combine-in-Sub32.ensures.made c.combine-in-Sub32.ensures.left
    c.combine-in-Sub32.ensures.memory c.combine-in-Sub32.ensures.privilege

pub combine-requires-in-And64 : goal.combine-requires-in-And64
combine-requires-in-And64 c = record {
  ready = c.requires.ready;
  width = is_64;
  register = c.requires.register (ap has_register_first c.in-And64.is);
}

pub returns-in-And64 : goal.returns-in-And64
returns-in-And64 c =
    alone c.in-And64.is refl refl c.requires.window c.combine-in-And64.ensures.made c.combine-in-And64.ensures.left
    c.combine-in-And64.ensures.memory c.combine-in-And64.ensures.privilege

pub combine-requires-in-And32 : goal.combine-requires-in-And32
combine-requires-in-And32 c = record {
  ready = c.requires.ready;
  width = is_32;
  register = c.requires.register (ap has_register_first c.in-And32.is);
}

pub returns-in-And32 : goal.returns-in-And32
returns-in-And32 c =
    alone c.in-And32.is refl refl c.requires.window c.combine-in-And32.ensures.made c.combine-in-And32.ensures.left
    c.combine-in-And32.ensures.memory c.combine-in-And32.ensures.privilege

pub combine-requires-in-Or64 : goal.combine-requires-in-Or64
combine-requires-in-Or64 c = record {
  ready = c.requires.ready;
  width = is_64;
  register = c.requires.register (ap has_register_first c.in-Or64.is);
}

pub returns-in-Or64 : goal.returns-in-Or64
returns-in-Or64 c =
    alone c.in-Or64.is refl refl c.requires.window c.combine-in-Or64.ensures.made c.combine-in-Or64.ensures.left
    c.combine-in-Or64.ensures.memory c.combine-in-Or64.ensures.privilege

pub combine-requires-in-Or32 : goal.combine-requires-in-Or32
combine-requires-in-Or32 c = record {
  ready = c.requires.ready;
  width = is_32;
  register = c.requires.register (ap has_register_first c.in-Or32.is);
}

pub returns-in-Or32 : goal.returns-in-Or32
returns-in-Or32 c =
    alone c.in-Or32.is refl refl c.requires.window c.combine-in-Or32.ensures.made c.combine-in-Or32.ensures.left
    c.combine-in-Or32.ensures.memory c.combine-in-Or32.ensures.privilege

pub combine-requires-in-Xor64 : goal.combine-requires-in-Xor64
combine-requires-in-Xor64 c = record {
  ready = c.requires.ready;
  width = is_64;
  register = c.requires.register (ap has_register_first c.in-Xor64.is);
}

pub returns-in-Xor64 : goal.returns-in-Xor64
returns-in-Xor64 c =
    alone c.in-Xor64.is refl refl c.requires.window c.combine-in-Xor64.ensures.made c.combine-in-Xor64.ensures.left
    c.combine-in-Xor64.ensures.memory c.combine-in-Xor64.ensures.privilege

pub combine-requires-in-Xor32 : goal.combine-requires-in-Xor32
combine-requires-in-Xor32 c = record {
  ready = c.requires.ready;
  width = is_32;
  register = c.requires.register (ap has_register_first c.in-Xor32.is);
}

pub returns-in-Xor32 : goal.returns-in-Xor32
returns-in-Xor32 c =
    alone c.in-Xor32.is refl refl c.requires.window c.combine-in-Xor32.ensures.made c.combine-in-Xor32.ensures.left
    c.combine-in-Xor32.ensures.memory c.combine-in-Xor32.ensures.privilege

pub combine-requires-in-Inc64 : goal.combine-requires-in-Inc64
combine-requires-in-Inc64 c = record {
  ready = c.requires.ready;
  width = is_64;
  register = c.requires.register (ap has_register_first c.in-Inc64.is);
}

pub returns-in-Inc64 : goal.returns-in-Inc64
returns-in-Inc64 c =
    alone c.in-Inc64.is refl refl c.requires.window c.combine-in-Inc64.ensures.made c.combine-in-Inc64.ensures.left
    c.combine-in-Inc64.ensures.memory c.combine-in-Inc64.ensures.privilege

pub combine-requires-in-Inc32 : goal.combine-requires-in-Inc32
combine-requires-in-Inc32 c = record {
  ready = c.requires.ready;
  width = is_32;
  register = c.requires.register (ap has_register_first c.in-Inc32.is);
}

pub returns-in-Inc32 : goal.returns-in-Inc32
returns-in-Inc32 c =
    alone c.in-Inc32.is refl refl c.requires.window c.combine-in-Inc32.ensures.made c.combine-in-Inc32.ensures.left
    c.combine-in-Inc32.ensures.memory c.combine-in-Inc32.ensures.privilege

pub combine-requires-in-Dec64 : goal.combine-requires-in-Dec64
combine-requires-in-Dec64 c = record {
  ready = c.requires.ready;
  width = is_64;
  register = c.requires.register (ap has_register_first c.in-Dec64.is);
}

pub returns-in-Dec64 : goal.returns-in-Dec64
returns-in-Dec64 c =
    alone c.in-Dec64.is refl refl c.requires.window c.combine-in-Dec64.ensures.made c.combine-in-Dec64.ensures.left
    c.combine-in-Dec64.ensures.memory c.combine-in-Dec64.ensures.privilege

pub combine-requires-in-Dec32 : goal.combine-requires-in-Dec32
combine-requires-in-Dec32 c = record {
  ready = c.requires.ready;
  width = is_32;
  register = c.requires.register (ap has_register_first c.in-Dec32.is);
}

pub returns-in-Dec32 : goal.returns-in-Dec32
returns-in-Dec32 c =
    alone c.in-Dec32.is refl refl c.requires.window c.combine-in-Dec32.ensures.made c.combine-in-Dec32.ensures.left
    c.combine-in-Dec32.ensures.memory c.combine-in-Dec32.ensures.privilege

pub combine-requires-in-Shl64 : goal.combine-requires-in-Shl64
combine-requires-in-Shl64 c = record {
  ready = c.requires.ready;
  width = is_64;
  register = c.requires.register (ap has_register_first c.in-Shl64.is);
}

pub returns-in-Shl64 : goal.returns-in-Shl64
returns-in-Shl64 c =
    alone c.in-Shl64.is refl refl c.requires.window c.combine-in-Shl64.ensures.made c.combine-in-Shl64.ensures.left
    c.combine-in-Shl64.ensures.memory c.combine-in-Shl64.ensures.privilege

pub combine-requires-in-Shl32 : goal.combine-requires-in-Shl32
combine-requires-in-Shl32 c = record {
  ready = c.requires.ready;
  width = is_32;
  register = c.requires.register (ap has_register_first c.in-Shl32.is);
}

pub returns-in-Shl32 : goal.returns-in-Shl32
returns-in-Shl32 c =
    alone c.in-Shl32.is refl refl c.requires.window c.combine-in-Shl32.ensures.made c.combine-in-Shl32.ensures.left
    c.combine-in-Shl32.ensures.memory c.combine-in-Shl32.ensures.privilege

pub combine-requires-in-Shr64 : goal.combine-requires-in-Shr64
combine-requires-in-Shr64 c = record {
  ready = c.requires.ready;
  width = is_64;
  register = c.requires.register (ap has_register_first c.in-Shr64.is);
}

pub returns-in-Shr64 : goal.returns-in-Shr64
returns-in-Shr64 c =
    alone c.in-Shr64.is refl refl c.requires.window c.combine-in-Shr64.ensures.made c.combine-in-Shr64.ensures.left
    c.combine-in-Shr64.ensures.memory c.combine-in-Shr64.ensures.privilege

pub combine-requires-in-Shr32 : goal.combine-requires-in-Shr32
combine-requires-in-Shr32 c = record {
  ready = c.requires.ready;
  width = is_32;
  register = c.requires.register (ap has_register_first c.in-Shr32.is);
}

pub returns-in-Shr32 : goal.returns-in-Shr32
returns-in-Shr32 c =
    alone c.in-Shr32.is refl refl c.requires.window c.combine-in-Shr32.ensures.made c.combine-in-Shr32.ensures.left
    c.combine-in-Shr32.ensures.memory c.combine-in-Shr32.ensures.privilege

pub combine-requires-in-Sar64 : goal.combine-requires-in-Sar64
combine-requires-in-Sar64 c = record {
  ready = c.requires.ready;
  width = is_64;
  register = c.requires.register (ap has_register_first c.in-Sar64.is);
}

pub returns-in-Sar64 : goal.returns-in-Sar64
returns-in-Sar64 c =
    alone c.in-Sar64.is refl refl c.requires.window c.combine-in-Sar64.ensures.made c.combine-in-Sar64.ensures.left
    c.combine-in-Sar64.ensures.memory c.combine-in-Sar64.ensures.privilege

pub combine-requires-in-Sar32 : goal.combine-requires-in-Sar32
combine-requires-in-Sar32 c = record {
  ready = c.requires.ready;
  width = is_32;
  register = c.requires.register (ap has_register_first c.in-Sar32.is);
}

pub returns-in-Sar32 : goal.returns-in-Sar32
returns-in-Sar32 c =
    alone c.in-Sar32.is refl refl c.requires.window c.combine-in-Sar32.ensures.made c.combine-in-Sar32.ensures.left
    c.combine-in-Sar32.ensures.memory c.combine-in-Sar32.ensures.privilege

pub combine-requires-in-Rol64 : goal.combine-requires-in-Rol64
combine-requires-in-Rol64 c = record {
  ready = c.requires.ready;
  width = is_64;
  register = c.requires.register (ap has_register_first c.in-Rol64.is);
}

pub returns-in-Rol64 : goal.returns-in-Rol64
returns-in-Rol64 c =
    alone c.in-Rol64.is refl refl c.requires.window c.combine-in-Rol64.ensures.made c.combine-in-Rol64.ensures.left
    c.combine-in-Rol64.ensures.memory c.combine-in-Rol64.ensures.privilege

pub combine-requires-in-Rol32 : goal.combine-requires-in-Rol32
combine-requires-in-Rol32 c = record {
  ready = c.requires.ready;
  width = is_32;
  register = c.requires.register (ap has_register_first c.in-Rol32.is);
}

pub returns-in-Rol32 : goal.returns-in-Rol32
returns-in-Rol32 c =
    alone c.in-Rol32.is refl refl c.requires.window c.combine-in-Rol32.ensures.made c.combine-in-Rol32.ensures.left
    c.combine-in-Rol32.ensures.memory c.combine-in-Rol32.ensures.privilege

pub combine-requires-in-Ror64 : goal.combine-requires-in-Ror64
combine-requires-in-Ror64 c = record {
  ready = c.requires.ready;
  width = is_64;
  register = c.requires.register (ap has_register_first c.in-Ror64.is);
}

pub returns-in-Ror64 : goal.returns-in-Ror64
returns-in-Ror64 c =
    alone c.in-Ror64.is refl refl c.requires.window c.combine-in-Ror64.ensures.made c.combine-in-Ror64.ensures.left
    c.combine-in-Ror64.ensures.memory c.combine-in-Ror64.ensures.privilege

pub combine-requires-in-Ror32 : goal.combine-requires-in-Ror32
combine-requires-in-Ror32 c = record {
  ready = c.requires.ready;
  width = is_32;
  register = c.requires.register (ap has_register_first c.in-Ror32.is);
}

pub returns-in-Ror32 : goal.returns-in-Ror32
returns-in-Ror32 c =
    alone c.in-Ror32.is refl refl c.requires.window c.combine-in-Ror32.ensures.made c.combine-in-Ror32.ensures.left
    c.combine-in-Ror32.ensures.memory c.combine-in-Ror32.ensures.privilege

pub combine-requires-in-Neg64 : goal.combine-requires-in-Neg64
combine-requires-in-Neg64 c = record {
  ready = c.requires.ready;
  width = is_64;
  register = c.requires.register (ap has_register_first c.in-Neg64.is);
}

pub returns-in-Neg64 : goal.returns-in-Neg64
returns-in-Neg64 c =
    alone c.in-Neg64.is refl refl c.requires.window c.combine-in-Neg64.ensures.made c.combine-in-Neg64.ensures.left
    c.combine-in-Neg64.ensures.memory c.combine-in-Neg64.ensures.privilege

pub combine-requires-in-Neg32 : goal.combine-requires-in-Neg32
combine-requires-in-Neg32 c = record {
  ready = c.requires.ready;
  width = is_32;
  register = c.requires.register (ap has_register_first c.in-Neg32.is);
}

pub returns-in-Neg32 : goal.returns-in-Neg32
returns-in-Neg32 c =
    alone c.in-Neg32.is refl refl c.requires.window c.combine-in-Neg32.ensures.made c.combine-in-Neg32.ensures.left
    c.combine-in-Neg32.ensures.memory c.combine-in-Neg32.ensures.privilege

pub combine-requires-in-Not64 : goal.combine-requires-in-Not64
combine-requires-in-Not64 c = record {
  ready = c.requires.ready;
  width = is_64;
  register = c.requires.register (ap has_register_first c.in-Not64.is);
}

pub returns-in-Not64 : goal.returns-in-Not64
returns-in-Not64 c =
    alone c.in-Not64.is refl refl c.requires.window c.combine-in-Not64.ensures.made c.combine-in-Not64.ensures.left
    c.combine-in-Not64.ensures.memory c.combine-in-Not64.ensures.privilege

pub combine-requires-in-Not32 : goal.combine-requires-in-Not32
combine-requires-in-Not32 c = record {
  ready = c.requires.ready;
  width = is_32;
  register = c.requires.register (ap has_register_first c.in-Not32.is);
}

pub returns-in-Not32 : goal.returns-in-Not32
returns-in-Not32 c =
    alone c.in-Not32.is refl refl c.requires.window c.combine-in-Not32.ensures.made c.combine-in-Not32.ensures.left
    c.combine-in-Not32.ensures.memory c.combine-in-Not32.ensures.privilege

pub combine-requires-in-Adc64 : goal.combine-requires-in-Adc64
combine-requires-in-Adc64 c = record {
  ready = c.requires.ready;
  width = is_64;
  register = c.requires.register (ap has_register_first c.in-Adc64.is);
}

pub returns-in-Adc64 : goal.returns-in-Adc64
returns-in-Adc64 c =
    alone c.in-Adc64.is refl refl c.requires.window c.combine-in-Adc64.ensures.made c.combine-in-Adc64.ensures.left
    c.combine-in-Adc64.ensures.memory c.combine-in-Adc64.ensures.privilege

pub combine-requires-in-Adc32 : goal.combine-requires-in-Adc32
combine-requires-in-Adc32 c = record {
  ready = c.requires.ready;
  width = is_32;
  register = c.requires.register (ap has_register_first c.in-Adc32.is);
}

pub returns-in-Adc32 : goal.returns-in-Adc32
returns-in-Adc32 c =
    alone c.in-Adc32.is refl refl c.requires.window c.combine-in-Adc32.ensures.made c.combine-in-Adc32.ensures.left
    c.combine-in-Adc32.ensures.memory c.combine-in-Adc32.ensures.privilege

pub combine-requires-in-Sbb64 : goal.combine-requires-in-Sbb64
combine-requires-in-Sbb64 c = record {
  ready = c.requires.ready;
  width = is_64;
  register = c.requires.register (ap has_register_first c.in-Sbb64.is);
}

pub returns-in-Sbb64 : goal.returns-in-Sbb64
returns-in-Sbb64 c =
    alone c.in-Sbb64.is refl refl c.requires.window c.combine-in-Sbb64.ensures.made c.combine-in-Sbb64.ensures.left
    c.combine-in-Sbb64.ensures.memory c.combine-in-Sbb64.ensures.privilege

pub combine-requires-in-Sbb32 : goal.combine-requires-in-Sbb32
combine-requires-in-Sbb32 c = record {
  ready = c.requires.ready;
  width = is_32;
  register = c.requires.register (ap has_register_first c.in-Sbb32.is);
}

pub returns-in-Sbb32 : goal.returns-in-Sbb32
returns-in-Sbb32 c =
    alone c.in-Sbb32.is refl refl c.requires.window c.combine-in-Sbb32.ensures.made c.combine-in-Sbb32.ensures.left
    c.combine-in-Sbb32.ensures.memory c.combine-in-Sbb32.ensures.privilege

pub combine_load-requires : goal.combine_load-requires
combine_load-requires c = record {
  ready = c.requires.ready;
  width = is_64;
  register = c.requires.register (ap has_register_first c.in-AddLoad64.is);
  frames = c.requires.frames;
  window = c.requires.window;
}

pub returns-in-AddLoad64 : goal.returns-in-AddLoad64
returns-in-AddLoad64 c =
    in_window c.in-AddLoad64.is refl refl c.combine_load.ensures.made c.combine_load.ensures.left
    c.combine_load.ensures.window c.combine_load.ensures.off c.combine_load.ensures.code
    c.combine_load.ensures.length c.combine_load.ensures.privilege

pub combine_load-requires-in-AddLoad32 : goal.combine_load-requires-in-AddLoad32
combine_load-requires-in-AddLoad32 c = record {
  ready = c.requires.ready;
  width = is_32;
  register = c.requires.register (ap has_register_first c.in-AddLoad32.is);
  frames = c.requires.frames;
  window = c.requires.window;
}

pub returns-in-AddLoad32 : goal.returns-in-AddLoad32
returns-in-AddLoad32 c =
    in_window c.in-AddLoad32.is refl refl c.combine_load-in-AddLoad32.ensures.made
    c.combine_load-in-AddLoad32.ensures.left c.combine_load-in-AddLoad32.ensures.window
    c.combine_load-in-AddLoad32.ensures.off c.combine_load-in-AddLoad32.ensures.code
    c.combine_load-in-AddLoad32.ensures.length c.combine_load-in-AddLoad32.ensures.privilege

pub combine_load-requires-in-SubLoad64 : goal.combine_load-requires-in-SubLoad64
combine_load-requires-in-SubLoad64 c = record {
  ready = c.requires.ready;
  width = is_64;
  register = c.requires.register (ap has_register_first c.in-SubLoad64.is);
  frames = c.requires.frames;
  window = c.requires.window;
}

pub returns-in-SubLoad64 : goal.returns-in-SubLoad64
returns-in-SubLoad64 c =
    in_window c.in-SubLoad64.is refl refl c.combine_load-in-SubLoad64.ensures.made
    c.combine_load-in-SubLoad64.ensures.left c.combine_load-in-SubLoad64.ensures.window
    c.combine_load-in-SubLoad64.ensures.off c.combine_load-in-SubLoad64.ensures.code
    c.combine_load-in-SubLoad64.ensures.length c.combine_load-in-SubLoad64.ensures.privilege

pub combine_load-requires-in-SubLoad32 : goal.combine_load-requires-in-SubLoad32
combine_load-requires-in-SubLoad32 c = record {
  ready = c.requires.ready;
  width = is_32;
  register = c.requires.register (ap has_register_first c.in-SubLoad32.is);
  frames = c.requires.frames;
  window = c.requires.window;
}

pub returns-in-SubLoad32 : goal.returns-in-SubLoad32
returns-in-SubLoad32 c =
    in_window c.in-SubLoad32.is refl refl c.combine_load-in-SubLoad32.ensures.made
    c.combine_load-in-SubLoad32.ensures.left c.combine_load-in-SubLoad32.ensures.window
    c.combine_load-in-SubLoad32.ensures.off c.combine_load-in-SubLoad32.ensures.code
    c.combine_load-in-SubLoad32.ensures.length c.combine_load-in-SubLoad32.ensures.privilege

pub combine_load-requires-in-AndLoad64 : goal.combine_load-requires-in-AndLoad64
combine_load-requires-in-AndLoad64 c = record {
  ready = c.requires.ready;
  width = is_64;
  register = c.requires.register (ap has_register_first c.in-AndLoad64.is);
  frames = c.requires.frames;
  window = c.requires.window;
}

pub returns-in-AndLoad64 : goal.returns-in-AndLoad64
returns-in-AndLoad64 c =
    in_window c.in-AndLoad64.is refl refl c.combine_load-in-AndLoad64.ensures.made
    c.combine_load-in-AndLoad64.ensures.left c.combine_load-in-AndLoad64.ensures.window
    c.combine_load-in-AndLoad64.ensures.off c.combine_load-in-AndLoad64.ensures.code
    c.combine_load-in-AndLoad64.ensures.length c.combine_load-in-AndLoad64.ensures.privilege

pub combine_load-requires-in-AndLoad32 : goal.combine_load-requires-in-AndLoad32
combine_load-requires-in-AndLoad32 c = record {
  ready = c.requires.ready;
  width = is_32;
  register = c.requires.register (ap has_register_first c.in-AndLoad32.is);
  frames = c.requires.frames;
  window = c.requires.window;
}

pub returns-in-AndLoad32 : goal.returns-in-AndLoad32
returns-in-AndLoad32 c =
    in_window c.in-AndLoad32.is refl refl c.combine_load-in-AndLoad32.ensures.made
    c.combine_load-in-AndLoad32.ensures.left c.combine_load-in-AndLoad32.ensures.window
    c.combine_load-in-AndLoad32.ensures.off c.combine_load-in-AndLoad32.ensures.code
    c.combine_load-in-AndLoad32.ensures.length c.combine_load-in-AndLoad32.ensures.privilege

pub combine_load-requires-in-OrLoad64 : goal.combine_load-requires-in-OrLoad64
combine_load-requires-in-OrLoad64 c = record {
  ready = c.requires.ready;
  width = is_64;
  register = c.requires.register (ap has_register_first c.in-OrLoad64.is);
  frames = c.requires.frames;
  window = c.requires.window;
}

pub returns-in-OrLoad64 : goal.returns-in-OrLoad64
returns-in-OrLoad64 c =
    in_window c.in-OrLoad64.is refl refl c.combine_load-in-OrLoad64.ensures.made
    c.combine_load-in-OrLoad64.ensures.left c.combine_load-in-OrLoad64.ensures.window
    c.combine_load-in-OrLoad64.ensures.off c.combine_load-in-OrLoad64.ensures.code
    c.combine_load-in-OrLoad64.ensures.length c.combine_load-in-OrLoad64.ensures.privilege

pub combine_load-requires-in-OrLoad32 : goal.combine_load-requires-in-OrLoad32
combine_load-requires-in-OrLoad32 c = record {
  ready = c.requires.ready;
  width = is_32;
  register = c.requires.register (ap has_register_first c.in-OrLoad32.is);
  frames = c.requires.frames;
  window = c.requires.window;
}

pub returns-in-OrLoad32 : goal.returns-in-OrLoad32
returns-in-OrLoad32 c =
    in_window c.in-OrLoad32.is refl refl c.combine_load-in-OrLoad32.ensures.made
    c.combine_load-in-OrLoad32.ensures.left c.combine_load-in-OrLoad32.ensures.window
    c.combine_load-in-OrLoad32.ensures.off c.combine_load-in-OrLoad32.ensures.code
    c.combine_load-in-OrLoad32.ensures.length c.combine_load-in-OrLoad32.ensures.privilege

pub combine_load-requires-in-XorLoad64 : goal.combine_load-requires-in-XorLoad64
combine_load-requires-in-XorLoad64 c = record {
  ready = c.requires.ready;
  width = is_64;
  register = c.requires.register (ap has_register_first c.in-XorLoad64.is);
  frames = c.requires.frames;
  window = c.requires.window;
}

pub returns-in-XorLoad64 : goal.returns-in-XorLoad64
returns-in-XorLoad64 c =
    in_window c.in-XorLoad64.is refl refl c.combine_load-in-XorLoad64.ensures.made
    c.combine_load-in-XorLoad64.ensures.left c.combine_load-in-XorLoad64.ensures.window
    c.combine_load-in-XorLoad64.ensures.off c.combine_load-in-XorLoad64.ensures.code
    c.combine_load-in-XorLoad64.ensures.length c.combine_load-in-XorLoad64.ensures.privilege

pub combine_load-requires-in-XorLoad32 : goal.combine_load-requires-in-XorLoad32
combine_load-requires-in-XorLoad32 c = record {
  ready = c.requires.ready;
  width = is_32;
  register = c.requires.register (ap has_register_first c.in-XorLoad32.is);
  frames = c.requires.frames;
  window = c.requires.window;
}

pub returns-in-XorLoad32 : goal.returns-in-XorLoad32
returns-in-XorLoad32 c =
    in_window c.in-XorLoad32.is refl refl c.combine_load-in-XorLoad32.ensures.made
    c.combine_load-in-XorLoad32.ensures.left c.combine_load-in-XorLoad32.ensures.window
    c.combine_load-in-XorLoad32.ensures.off c.combine_load-in-XorLoad32.ensures.code
    c.combine_load-in-XorLoad32.ensures.length c.combine_load-in-XorLoad32.ensures.privilege

pub combine_store-requires : goal.combine_store-requires
combine_store-requires c = record {
  ready = c.requires.ready;
  width = is_64;
  frames = c.requires.frames;
  window = c.requires.window;
}

pub returns-in-AddStore64 : goal.returns-in-AddStore64
returns-in-AddStore64 c =
    in_window c.in-AddStore64.is refl refl c.combine_store.ensures.made c.combine_store.ensures.left
    c.combine_store.ensures.window c.combine_store.ensures.off c.combine_store.ensures.code
    c.combine_store.ensures.length c.combine_store.ensures.privilege

pub combine_store-requires-in-AddStore32 : goal.combine_store-requires-in-AddStore32
combine_store-requires-in-AddStore32 c = record {
  ready = c.requires.ready;
  width = is_32;
  frames = c.requires.frames;
  window = c.requires.window;
}

pub returns-in-AddStore32 : goal.returns-in-AddStore32
returns-in-AddStore32 c =
    in_window c.in-AddStore32.is refl refl c.combine_store-in-AddStore32.ensures.made
    c.combine_store-in-AddStore32.ensures.left c.combine_store-in-AddStore32.ensures.window
    c.combine_store-in-AddStore32.ensures.off c.combine_store-in-AddStore32.ensures.code
    c.combine_store-in-AddStore32.ensures.length c.combine_store-in-AddStore32.ensures.privilege

pub combine_store-requires-in-SubStore64 : goal.combine_store-requires-in-SubStore64
combine_store-requires-in-SubStore64 c = record {
  ready = c.requires.ready;
  width = is_64;
  frames = c.requires.frames;
  window = c.requires.window;
}

pub returns-in-SubStore64 : goal.returns-in-SubStore64
returns-in-SubStore64 c =
    in_window c.in-SubStore64.is refl refl c.combine_store-in-SubStore64.ensures.made
    c.combine_store-in-SubStore64.ensures.left c.combine_store-in-SubStore64.ensures.window
    c.combine_store-in-SubStore64.ensures.off c.combine_store-in-SubStore64.ensures.code
    c.combine_store-in-SubStore64.ensures.length c.combine_store-in-SubStore64.ensures.privilege

pub combine_store-requires-in-SubStore32 : goal.combine_store-requires-in-SubStore32
combine_store-requires-in-SubStore32 c = record {
  ready = c.requires.ready;
  width = is_32;
  frames = c.requires.frames;
  window = c.requires.window;
}

pub returns-in-SubStore32 : goal.returns-in-SubStore32
returns-in-SubStore32 c =
    in_window c.in-SubStore32.is refl refl c.combine_store-in-SubStore32.ensures.made
    c.combine_store-in-SubStore32.ensures.left c.combine_store-in-SubStore32.ensures.window
    c.combine_store-in-SubStore32.ensures.off c.combine_store-in-SubStore32.ensures.code
    c.combine_store-in-SubStore32.ensures.length c.combine_store-in-SubStore32.ensures.privilege

pub combine_store-requires-in-AndStore64 : goal.combine_store-requires-in-AndStore64
combine_store-requires-in-AndStore64 c = record {
  ready = c.requires.ready;
  width = is_64;
  frames = c.requires.frames;
  window = c.requires.window;
}

pub returns-in-AndStore64 : goal.returns-in-AndStore64
returns-in-AndStore64 c =
    in_window c.in-AndStore64.is refl refl c.combine_store-in-AndStore64.ensures.made
    c.combine_store-in-AndStore64.ensures.left c.combine_store-in-AndStore64.ensures.window
    c.combine_store-in-AndStore64.ensures.off c.combine_store-in-AndStore64.ensures.code
    c.combine_store-in-AndStore64.ensures.length c.combine_store-in-AndStore64.ensures.privilege

pub combine_store-requires-in-AndStore32 : goal.combine_store-requires-in-AndStore32
combine_store-requires-in-AndStore32 c = record {
  ready = c.requires.ready;
  width = is_32;
  frames = c.requires.frames;
  window = c.requires.window;
}

pub returns-in-AndStore32 : goal.returns-in-AndStore32
returns-in-AndStore32 c =
    in_window c.in-AndStore32.is refl refl c.combine_store-in-AndStore32.ensures.made
    c.combine_store-in-AndStore32.ensures.left c.combine_store-in-AndStore32.ensures.window
    c.combine_store-in-AndStore32.ensures.off c.combine_store-in-AndStore32.ensures.code
    c.combine_store-in-AndStore32.ensures.length c.combine_store-in-AndStore32.ensures.privilege

pub combine_store-requires-in-OrStore64 : goal.combine_store-requires-in-OrStore64
combine_store-requires-in-OrStore64 c = record {
  ready = c.requires.ready;
  width = is_64;
  frames = c.requires.frames;
  window = c.requires.window;
}

pub returns-in-OrStore64 : goal.returns-in-OrStore64
returns-in-OrStore64 c =
    in_window c.in-OrStore64.is refl refl c.combine_store-in-OrStore64.ensures.made
    c.combine_store-in-OrStore64.ensures.left c.combine_store-in-OrStore64.ensures.window
    c.combine_store-in-OrStore64.ensures.off c.combine_store-in-OrStore64.ensures.code
    c.combine_store-in-OrStore64.ensures.length c.combine_store-in-OrStore64.ensures.privilege

pub combine_store-requires-in-OrStore32 : goal.combine_store-requires-in-OrStore32
combine_store-requires-in-OrStore32 c = record {
  ready = c.requires.ready;
  width = is_32;
  frames = c.requires.frames;
  window = c.requires.window;
}

pub returns-in-OrStore32 : goal.returns-in-OrStore32
returns-in-OrStore32 c =
    in_window c.in-OrStore32.is refl refl c.combine_store-in-OrStore32.ensures.made
    c.combine_store-in-OrStore32.ensures.left c.combine_store-in-OrStore32.ensures.window
    c.combine_store-in-OrStore32.ensures.off c.combine_store-in-OrStore32.ensures.code
    c.combine_store-in-OrStore32.ensures.length c.combine_store-in-OrStore32.ensures.privilege

pub combine_store-requires-in-IncStore64 : goal.combine_store-requires-in-IncStore64
combine_store-requires-in-IncStore64 c = record {
  ready = c.requires.ready;
  width = is_64;
  frames = c.requires.frames;
  window = c.requires.window;
}

pub returns-in-IncStore64 : goal.returns-in-IncStore64
returns-in-IncStore64 c =
    in_window c.in-IncStore64.is refl refl c.combine_store-in-IncStore64.ensures.made
    c.combine_store-in-IncStore64.ensures.left c.combine_store-in-IncStore64.ensures.window
    c.combine_store-in-IncStore64.ensures.off c.combine_store-in-IncStore64.ensures.code
    c.combine_store-in-IncStore64.ensures.length c.combine_store-in-IncStore64.ensures.privilege

pub combine_store-requires-in-IncStore32 : goal.combine_store-requires-in-IncStore32
combine_store-requires-in-IncStore32 c = record {
  ready = c.requires.ready;
  width = is_32;
  frames = c.requires.frames;
  window = c.requires.window;
}

pub returns-in-IncStore32 : goal.returns-in-IncStore32
returns-in-IncStore32 c =
    in_window c.in-IncStore32.is refl refl c.combine_store-in-IncStore32.ensures.made
    c.combine_store-in-IncStore32.ensures.left c.combine_store-in-IncStore32.ensures.window
    c.combine_store-in-IncStore32.ensures.off c.combine_store-in-IncStore32.ensures.code
    c.combine_store-in-IncStore32.ensures.length c.combine_store-in-IncStore32.ensures.privilege

pub combine_store-requires-in-DecStore64 : goal.combine_store-requires-in-DecStore64
combine_store-requires-in-DecStore64 c = record {
  ready = c.requires.ready;
  width = is_64;
  frames = c.requires.frames;
  window = c.requires.window;
}

pub returns-in-DecStore64 : goal.returns-in-DecStore64
returns-in-DecStore64 c =
    in_window c.in-DecStore64.is refl refl c.combine_store-in-DecStore64.ensures.made
    c.combine_store-in-DecStore64.ensures.left c.combine_store-in-DecStore64.ensures.window
    c.combine_store-in-DecStore64.ensures.off c.combine_store-in-DecStore64.ensures.code
    c.combine_store-in-DecStore64.ensures.length c.combine_store-in-DecStore64.ensures.privilege

pub combine_store-requires-in-DecStore32 : goal.combine_store-requires-in-DecStore32
combine_store-requires-in-DecStore32 c = record {
  ready = c.requires.ready;
  width = is_32;
  frames = c.requires.frames;
  window = c.requires.window;
}

pub returns-in-DecStore32 : goal.returns-in-DecStore32
returns-in-DecStore32 c =
    in_window c.in-DecStore32.is refl refl c.combine_store-in-DecStore32.ensures.made
    c.combine_store-in-DecStore32.ensures.left c.combine_store-in-DecStore32.ensures.window
    c.combine_store-in-DecStore32.ensures.off c.combine_store-in-DecStore32.ensures.code
    c.combine_store-in-DecStore32.ensures.length c.combine_store-in-DecStore32.ensures.privilege

pub combine_store-requires-in-IncStore8 : goal.combine_store-requires-in-IncStore8
combine_store-requires-in-IncStore8 c = record {
  ready = c.requires.ready;
  width = is_8;
  frames = c.requires.frames;
  window = c.requires.window;
}

pub returns-in-IncStore8 : goal.returns-in-IncStore8
returns-in-IncStore8 c =
    in_window c.in-IncStore8.is refl refl c.combine_store-in-IncStore8.ensures.made
    c.combine_store-in-IncStore8.ensures.left c.combine_store-in-IncStore8.ensures.window
    c.combine_store-in-IncStore8.ensures.off c.combine_store-in-IncStore8.ensures.code
    c.combine_store-in-IncStore8.ensures.length c.combine_store-in-IncStore8.ensures.privilege

pub combine_store-requires-in-DecStore8 : goal.combine_store-requires-in-DecStore8
combine_store-requires-in-DecStore8 c = record {
  ready = c.requires.ready;
  width = is_8;
  frames = c.requires.frames;
  window = c.requires.window;
}

pub returns-in-DecStore8 : goal.returns-in-DecStore8
returns-in-DecStore8 c =
    in_window c.in-DecStore8.is refl refl c.combine_store-in-DecStore8.ensures.made
    c.combine_store-in-DecStore8.ensures.left c.combine_store-in-DecStore8.ensures.window
    c.combine_store-in-DecStore8.ensures.off c.combine_store-in-DecStore8.ensures.code
    c.combine_store-in-DecStore8.ensures.length c.combine_store-in-DecStore8.ensures.privilege

pub combine_store-requires-in-AndStore8 : goal.combine_store-requires-in-AndStore8
combine_store-requires-in-AndStore8 c = record {
  ready = c.requires.ready;
  width = is_8;
  frames = c.requires.frames;
  window = c.requires.window;
}

pub returns-in-AndStore8 : goal.returns-in-AndStore8
returns-in-AndStore8 c =
    in_window c.in-AndStore8.is refl refl c.combine_store-in-AndStore8.ensures.made
    c.combine_store-in-AndStore8.ensures.left c.combine_store-in-AndStore8.ensures.window
    c.combine_store-in-AndStore8.ensures.off c.combine_store-in-AndStore8.ensures.code
    c.combine_store-in-AndStore8.ensures.length c.combine_store-in-AndStore8.ensures.privilege

pub combine_store-requires-in-OrStore8 : goal.combine_store-requires-in-OrStore8
combine_store-requires-in-OrStore8 c = record {
  ready = c.requires.ready;
  width = is_8;
  frames = c.requires.frames;
  window = c.requires.window;
}

pub returns-in-OrStore8 : goal.returns-in-OrStore8
returns-in-OrStore8 c =
    in_window c.in-OrStore8.is refl refl c.combine_store-in-OrStore8.ensures.made
    c.combine_store-in-OrStore8.ensures.left c.combine_store-in-OrStore8.ensures.window
    c.combine_store-in-OrStore8.ensures.off c.combine_store-in-OrStore8.ensures.code
    c.combine_store-in-OrStore8.ensures.length c.combine_store-in-OrStore8.ensures.privilege

pub compare-requires : goal.compare-requires
compare-requires c = record {
  ready = c.requires.ready;
  width = is_64;
  register = c.requires.register (ap has_register_first c.in-Cmp64.is);
}

pub returns-in-Cmp64 : goal.returns-in-Cmp64
returns-in-Cmp64 c =
    alone c.in-Cmp64.is refl refl c.requires.window c.compare.ensures.made c.compare.ensures.left
    c.compare.ensures.memory c.compare.ensures.privilege

pub compare-requires-in-Cmp32 : goal.compare-requires-in-Cmp32
compare-requires-in-Cmp32 c = record {
  ready = c.requires.ready;
  width = is_32;
  register = c.requires.register (ap has_register_first c.in-Cmp32.is);
}

pub returns-in-Cmp32 : goal.returns-in-Cmp32
returns-in-Cmp32 c =
    alone c.in-Cmp32.is refl refl c.requires.window c.compare-in-Cmp32.ensures.made c.compare-in-Cmp32.ensures.left
    c.compare-in-Cmp32.ensures.memory c.compare-in-Cmp32.ensures.privilege

pub compare-requires-in-Test64 : goal.compare-requires-in-Test64
compare-requires-in-Test64 c = record {
  ready = c.requires.ready;
  width = is_64;
  register = c.requires.register (ap has_register_first c.in-Test64.is);
}

pub returns-in-Test64 : goal.returns-in-Test64
returns-in-Test64 c =
    alone c.in-Test64.is refl refl c.requires.window c.compare-in-Test64.ensures.made c.compare-in-Test64.ensures.left
    c.compare-in-Test64.ensures.memory c.compare-in-Test64.ensures.privilege

pub compare-requires-in-Test32 : goal.compare-requires-in-Test32
compare-requires-in-Test32 c = record {
  ready = c.requires.ready;
  width = is_32;
  register = c.requires.register (ap has_register_first c.in-Test32.is);
}

pub returns-in-Test32 : goal.returns-in-Test32
returns-in-Test32 c =
    alone c.in-Test32.is refl refl c.requires.window c.compare-in-Test32.ensures.made c.compare-in-Test32.ensures.left
    c.compare-in-Test32.ensures.memory c.compare-in-Test32.ensures.privilege

pub compare-requires-in-Cmp8 : goal.compare-requires-in-Cmp8
compare-requires-in-Cmp8 c = record {
  ready = c.requires.ready;
  width = is_8;
  register = c.requires.register (ap has_register_first c.in-Cmp8.is);
}

pub returns-in-Cmp8 : goal.returns-in-Cmp8
returns-in-Cmp8 c =
    alone c.in-Cmp8.is refl refl c.requires.window c.compare-in-Cmp8.ensures.made c.compare-in-Cmp8.ensures.left
    c.compare-in-Cmp8.ensures.memory c.compare-in-Cmp8.ensures.privilege

pub compare-requires-in-Test8 : goal.compare-requires-in-Test8
compare-requires-in-Test8 c = record {
  ready = c.requires.ready;
  width = is_8;
  register = c.requires.register (ap has_register_first c.in-Test8.is);
}

pub returns-in-Test8 : goal.returns-in-Test8
returns-in-Test8 c =
    alone c.in-Test8.is refl refl c.requires.window c.compare-in-Test8.ensures.made c.compare-in-Test8.ensures.left
    c.compare-in-Test8.ensures.memory c.compare-in-Test8.ensures.privilege

pub compare_load-requires : goal.compare_load-requires
compare_load-requires c = record {
  ready = c.requires.ready;
  width = is_64;
  register = c.requires.register (ap has_register_first c.in-CmpLoad64.is);
  frames = c.requires.frames;
  window = c.requires.window;
}

pub returns-in-CmpLoad64 : goal.returns-in-CmpLoad64
returns-in-CmpLoad64 c =
    in_window c.in-CmpLoad64.is refl refl c.compare_load.ensures.made c.compare_load.ensures.left
    c.compare_load.ensures.window c.compare_load.ensures.off c.compare_load.ensures.code
    c.compare_load.ensures.length c.compare_load.ensures.privilege

pub compare_load-requires-in-CmpLoad32 : goal.compare_load-requires-in-CmpLoad32
compare_load-requires-in-CmpLoad32 c = record {
  ready = c.requires.ready;
  width = is_32;
  register = c.requires.register (ap has_register_first c.in-CmpLoad32.is);
  frames = c.requires.frames;
  window = c.requires.window;
}

pub returns-in-CmpLoad32 : goal.returns-in-CmpLoad32
returns-in-CmpLoad32 c =
    in_window c.in-CmpLoad32.is refl refl c.compare_load-in-CmpLoad32.ensures.made
    c.compare_load-in-CmpLoad32.ensures.left c.compare_load-in-CmpLoad32.ensures.window
    c.compare_load-in-CmpLoad32.ensures.off c.compare_load-in-CmpLoad32.ensures.code
    c.compare_load-in-CmpLoad32.ensures.length c.compare_load-in-CmpLoad32.ensures.privilege

pub compare_load-requires-in-CmpLoad8 : goal.compare_load-requires-in-CmpLoad8
compare_load-requires-in-CmpLoad8 c = record {
  ready = c.requires.ready;
  width = is_8;
  register = c.requires.register (ap has_register_first c.in-CmpLoad8.is);
  frames = c.requires.frames;
  window = c.requires.window;
}

pub returns-in-CmpLoad8 : goal.returns-in-CmpLoad8
returns-in-CmpLoad8 c =
    in_window c.in-CmpLoad8.is refl refl c.compare_load-in-CmpLoad8.ensures.made
    c.compare_load-in-CmpLoad8.ensures.left c.compare_load-in-CmpLoad8.ensures.window
    c.compare_load-in-CmpLoad8.ensures.off c.compare_load-in-CmpLoad8.ensures.code
    c.compare_load-in-CmpLoad8.ensures.length c.compare_load-in-CmpLoad8.ensures.privilege

pub compare_store-requires : goal.compare_store-requires
compare_store-requires c = record {
  ready = c.requires.ready;
  width = is_64;
  frames = c.requires.frames;
  window = c.requires.window;
}

pub returns-in-CmpStore64 : goal.returns-in-CmpStore64
returns-in-CmpStore64 c =
    in_window c.in-CmpStore64.is refl refl c.compare_store.ensures.made c.compare_store.ensures.left
    c.compare_store.ensures.window c.compare_store.ensures.off c.compare_store.ensures.code
    c.compare_store.ensures.length c.compare_store.ensures.privilege

pub compare_store-requires-in-CmpStore32 : goal.compare_store-requires-in-CmpStore32
compare_store-requires-in-CmpStore32 c = record {
  ready = c.requires.ready;
  width = is_32;
  frames = c.requires.frames;
  window = c.requires.window;
}

pub returns-in-CmpStore32 : goal.returns-in-CmpStore32
returns-in-CmpStore32 c =
    in_window c.in-CmpStore32.is refl refl c.compare_store-in-CmpStore32.ensures.made
    c.compare_store-in-CmpStore32.ensures.left c.compare_store-in-CmpStore32.ensures.window
    c.compare_store-in-CmpStore32.ensures.off c.compare_store-in-CmpStore32.ensures.code
    c.compare_store-in-CmpStore32.ensures.length c.compare_store-in-CmpStore32.ensures.privilege

pub compare_store-requires-in-CmpStore8 : goal.compare_store-requires-in-CmpStore8
compare_store-requires-in-CmpStore8 c = record {
  ready = c.requires.ready;
  width = is_8;
  frames = c.requires.frames;
  window = c.requires.window;
}

pub returns-in-CmpStore8 : goal.returns-in-CmpStore8
returns-in-CmpStore8 c =
    in_window c.in-CmpStore8.is refl refl c.compare_store-in-CmpStore8.ensures.made
    c.compare_store-in-CmpStore8.ensures.left c.compare_store-in-CmpStore8.ensures.window
    c.compare_store-in-CmpStore8.ensures.off c.compare_store-in-CmpStore8.ensures.code
    c.compare_store-in-CmpStore8.ensures.length c.compare_store-in-CmpStore8.ensures.privilege

pub compare_store-requires-in-TestStore64 : goal.compare_store-requires-in-TestStore64
compare_store-requires-in-TestStore64 c = record {
  ready = c.requires.ready;
  width = is_64;
  frames = c.requires.frames;
  window = c.requires.window;
}

pub returns-in-TestStore64 : goal.returns-in-TestStore64
returns-in-TestStore64 c =
    in_window c.in-TestStore64.is refl refl c.compare_store-in-TestStore64.ensures.made
    c.compare_store-in-TestStore64.ensures.left c.compare_store-in-TestStore64.ensures.window
    c.compare_store-in-TestStore64.ensures.off c.compare_store-in-TestStore64.ensures.code
    c.compare_store-in-TestStore64.ensures.length c.compare_store-in-TestStore64.ensures.privilege

pub compare_store-requires-in-TestStore32 : goal.compare_store-requires-in-TestStore32
compare_store-requires-in-TestStore32 c = record {
  ready = c.requires.ready;
  width = is_32;
  frames = c.requires.frames;
  window = c.requires.window;
}

pub returns-in-TestStore32 : goal.returns-in-TestStore32
returns-in-TestStore32 c =
    in_window c.in-TestStore32.is refl refl c.compare_store-in-TestStore32.ensures.made
    c.compare_store-in-TestStore32.ensures.left c.compare_store-in-TestStore32.ensures.window
    c.compare_store-in-TestStore32.ensures.off c.compare_store-in-TestStore32.ensures.code
    c.compare_store-in-TestStore32.ensures.length c.compare_store-in-TestStore32.ensures.privilege

pub compare_store-requires-in-TestStore8 : goal.compare_store-requires-in-TestStore8
compare_store-requires-in-TestStore8 c = record {
  ready = c.requires.ready;
  width = is_8;
  frames = c.requires.frames;
  window = c.requires.window;
}

pub returns-in-TestStore8 : goal.returns-in-TestStore8
returns-in-TestStore8 c =
    in_window c.in-TestStore8.is refl refl c.compare_store-in-TestStore8.ensures.made
    c.compare_store-in-TestStore8.ensures.left c.compare_store-in-TestStore8.ensures.window
    c.compare_store-in-TestStore8.ensures.off c.compare_store-in-TestStore8.ensures.code
    c.compare_store-in-TestStore8.ensures.length c.compare_store-in-TestStore8.ensures.privilege

pub move_over-requires : goal.move_over-requires
move_over-requires c = record {
  ready = c.requires.ready;
  width = is_64;
  register = c.requires.register (ap has_register_first c.in-Mov64.is);
}

pub returns-in-Mov64 : goal.returns-in-Mov64
returns-in-Mov64 c =
    alone c.in-Mov64.is refl refl c.requires.window c.move_over.ensures.made c.move_over.ensures.left
    c.move_over.ensures.memory c.move_over.ensures.privilege

pub move_over-requires-in-Mov32 : goal.move_over-requires-in-Mov32
move_over-requires-in-Mov32 c = record {
  ready = c.requires.ready;
  width = is_32;
  register = c.requires.register (ap has_register_first c.in-Mov32.is);
}

pub returns-in-Mov32 : goal.returns-in-Mov32
returns-in-Mov32 c =
    alone c.in-Mov32.is refl refl c.requires.window c.move_over-in-Mov32.ensures.made c.move_over-in-Mov32.ensures.left
    c.move_over-in-Mov32.ensures.memory c.move_over-in-Mov32.ensures.privilege

pub move_over-requires-in-MovzxByte32 : goal.move_over-requires-in-MovzxByte32
move_over-requires-in-MovzxByte32 c = record {
  ready = c.requires.ready;
  width = is_32;
  register = c.requires.register (ap has_register_first c.in-MovzxByte32.is);
}

pub returns-in-MovzxByte32 : goal.returns-in-MovzxByte32
returns-in-MovzxByte32 c =
    alone c.in-MovzxByte32.is refl refl c.requires.window c.move_over-in-MovzxByte32.ensures.made
    c.move_over-in-MovzxByte32.ensures.left c.move_over-in-MovzxByte32.ensures.memory
    c.move_over-in-MovzxByte32.ensures.privilege

pub move_over-requires-in-MovzxWord32 : goal.move_over-requires-in-MovzxWord32
move_over-requires-in-MovzxWord32 c = record {
  ready = c.requires.ready;
  width = is_32;
  register = c.requires.register (ap has_register_first c.in-MovzxWord32.is);
}

pub returns-in-MovzxWord32 : goal.returns-in-MovzxWord32
returns-in-MovzxWord32 c =
    alone c.in-MovzxWord32.is refl refl c.requires.window c.move_over-in-MovzxWord32.ensures.made
    c.move_over-in-MovzxWord32.ensures.left c.move_over-in-MovzxWord32.ensures.memory
    c.move_over-in-MovzxWord32.ensures.privilege

pub move_over-requires-in-MovsxByte64 : goal.move_over-requires-in-MovsxByte64
move_over-requires-in-MovsxByte64 c = record {
  ready = c.requires.ready;
  width = is_64;
  register = c.requires.register (ap has_register_first c.in-MovsxByte64.is);
}

pub returns-in-MovsxByte64 : goal.returns-in-MovsxByte64
returns-in-MovsxByte64 c =
    alone c.in-MovsxByte64.is refl refl c.requires.window c.move_over-in-MovsxByte64.ensures.made
    c.move_over-in-MovsxByte64.ensures.left c.move_over-in-MovsxByte64.ensures.memory
    c.move_over-in-MovsxByte64.ensures.privilege

pub move_over-requires-in-MovsxByte32 : goal.move_over-requires-in-MovsxByte32
move_over-requires-in-MovsxByte32 c = record {
  ready = c.requires.ready;
  width = is_32;
  register = c.requires.register (ap has_register_first c.in-MovsxByte32.is);
}

pub returns-in-MovsxByte32 : goal.returns-in-MovsxByte32
returns-in-MovsxByte32 c =
    alone c.in-MovsxByte32.is refl refl c.requires.window c.move_over-in-MovsxByte32.ensures.made
    c.move_over-in-MovsxByte32.ensures.left c.move_over-in-MovsxByte32.ensures.memory
    c.move_over-in-MovsxByte32.ensures.privilege

pub move_over-requires-in-MovsxWord64 : goal.move_over-requires-in-MovsxWord64
move_over-requires-in-MovsxWord64 c = record {
  ready = c.requires.ready;
  width = is_64;
  register = c.requires.register (ap has_register_first c.in-MovsxWord64.is);
}

pub returns-in-MovsxWord64 : goal.returns-in-MovsxWord64
returns-in-MovsxWord64 c =
    alone c.in-MovsxWord64.is refl refl c.requires.window c.move_over-in-MovsxWord64.ensures.made
    c.move_over-in-MovsxWord64.ensures.left c.move_over-in-MovsxWord64.ensures.memory
    c.move_over-in-MovsxWord64.ensures.privilege

pub move_over-requires-in-MovsxWord32 : goal.move_over-requires-in-MovsxWord32
move_over-requires-in-MovsxWord32 c = record {
  ready = c.requires.ready;
  width = is_32;
  register = c.requires.register (ap has_register_first c.in-MovsxWord32.is);
}

pub returns-in-MovsxWord32 : goal.returns-in-MovsxWord32
returns-in-MovsxWord32 c =
    alone c.in-MovsxWord32.is refl refl c.requires.window c.move_over-in-MovsxWord32.ensures.made
    c.move_over-in-MovsxWord32.ensures.left c.move_over-in-MovsxWord32.ensures.memory
    c.move_over-in-MovsxWord32.ensures.privilege

pub move_over-requires-in-Movsxd64 : goal.move_over-requires-in-Movsxd64
move_over-requires-in-Movsxd64 c = record {
  ready = c.requires.ready;
  width = is_64;
  register = c.requires.register (ap has_register_first c.in-Movsxd64.is);
}

pub returns-in-Movsxd64 : goal.returns-in-Movsxd64
returns-in-Movsxd64 c =
    alone c.in-Movsxd64.is refl refl c.requires.window c.move_over-in-Movsxd64.ensures.made
    c.move_over-in-Movsxd64.ensures.left c.move_over-in-Movsxd64.ensures.memory
    c.move_over-in-Movsxd64.ensures.privilege

pub move_load-requires : goal.move_load-requires
move_load-requires c = record {
  ready = c.requires.ready;
  width = is_64;
  register = c.requires.register (ap has_register_first c.in-Load64.is);
  frames = c.requires.frames;
  window = c.requires.window;
}

pub returns-in-Load64 : goal.returns-in-Load64
returns-in-Load64 c =
    in_window c.in-Load64.is refl refl c.move_load.ensures.made c.move_load.ensures.left c.move_load.ensures.window
    c.move_load.ensures.off c.move_load.ensures.code c.move_load.ensures.length c.move_load.ensures.privilege

pub move_load-requires-in-Load32 : goal.move_load-requires-in-Load32
move_load-requires-in-Load32 c = record {
  ready = c.requires.ready;
  width = is_32;
  register = c.requires.register (ap has_register_first c.in-Load32.is);
  frames = c.requires.frames;
  window = c.requires.window;
}

pub returns-in-Load32 : goal.returns-in-Load32
returns-in-Load32 c =
    in_window c.in-Load32.is refl refl c.move_load-in-Load32.ensures.made c.move_load-in-Load32.ensures.left
    c.move_load-in-Load32.ensures.window c.move_load-in-Load32.ensures.off c.move_load-in-Load32.ensures.code
    c.move_load-in-Load32.ensures.length c.move_load-in-Load32.ensures.privilege

pub move_load-requires-in-LoadByte : goal.move_load-requires-in-LoadByte
move_load-requires-in-LoadByte c = record {
  ready = c.requires.ready;
  width = is_32;
  register = c.requires.register (ap has_register_first c.in-LoadByte.is);
  frames = c.requires.frames;
  window = c.requires.window;
}

pub returns-in-LoadByte : goal.returns-in-LoadByte
returns-in-LoadByte c =
    in_window c.in-LoadByte.is refl refl c.move_load-in-LoadByte.ensures.made c.move_load-in-LoadByte.ensures.left
    c.move_load-in-LoadByte.ensures.window c.move_load-in-LoadByte.ensures.off c.move_load-in-LoadByte.ensures.code
    c.move_load-in-LoadByte.ensures.length c.move_load-in-LoadByte.ensures.privilege

pub move_load-requires-in-Load8 : goal.move_load-requires-in-Load8
move_load-requires-in-Load8 c = record {
  ready = c.requires.ready;
  width = is_8;
  register = c.requires.register (ap has_register_first c.in-Load8.is);
  frames = c.requires.frames;
  window = c.requires.window;
}

pub returns-in-Load8 : goal.returns-in-Load8
returns-in-Load8 c =
    in_window c.in-Load8.is refl refl c.move_load-in-Load8.ensures.made c.move_load-in-Load8.ensures.left
    c.move_load-in-Load8.ensures.window c.move_load-in-Load8.ensures.off c.move_load-in-Load8.ensures.code
    c.move_load-in-Load8.ensures.length c.move_load-in-Load8.ensures.privilege

pub move_load-requires-in-MovzxWordLoad32 : goal.move_load-requires-in-MovzxWordLoad32
move_load-requires-in-MovzxWordLoad32 c = record {
  ready = c.requires.ready;
  width = is_32;
  register = c.requires.register (ap has_register_first c.in-MovzxWordLoad32.is);
  frames = c.requires.frames;
  window = c.requires.window;
}

pub returns-in-MovzxWordLoad32 : goal.returns-in-MovzxWordLoad32
returns-in-MovzxWordLoad32 c =
    in_window c.in-MovzxWordLoad32.is refl refl c.move_load-in-MovzxWordLoad32.ensures.made
    c.move_load-in-MovzxWordLoad32.ensures.left c.move_load-in-MovzxWordLoad32.ensures.window
    c.move_load-in-MovzxWordLoad32.ensures.off c.move_load-in-MovzxWordLoad32.ensures.code
    c.move_load-in-MovzxWordLoad32.ensures.length c.move_load-in-MovzxWordLoad32.ensures.privilege

pub move_load-requires-in-MovsxByteLoad64 : goal.move_load-requires-in-MovsxByteLoad64
move_load-requires-in-MovsxByteLoad64 c = record {
  ready = c.requires.ready;
  width = is_64;
  register = c.requires.register (ap has_register_first c.in-MovsxByteLoad64.is);
  frames = c.requires.frames;
  window = c.requires.window;
}

pub returns-in-MovsxByteLoad64 : goal.returns-in-MovsxByteLoad64
returns-in-MovsxByteLoad64 c =
    in_window c.in-MovsxByteLoad64.is refl refl c.move_load-in-MovsxByteLoad64.ensures.made
    c.move_load-in-MovsxByteLoad64.ensures.left c.move_load-in-MovsxByteLoad64.ensures.window
    c.move_load-in-MovsxByteLoad64.ensures.off c.move_load-in-MovsxByteLoad64.ensures.code
    c.move_load-in-MovsxByteLoad64.ensures.length c.move_load-in-MovsxByteLoad64.ensures.privilege

pub move_load-requires-in-MovsxByteLoad32 : goal.move_load-requires-in-MovsxByteLoad32
move_load-requires-in-MovsxByteLoad32 c = record {
  ready = c.requires.ready;
  width = is_32;
  register = c.requires.register (ap has_register_first c.in-MovsxByteLoad32.is);
  frames = c.requires.frames;
  window = c.requires.window;
}

pub returns-in-MovsxByteLoad32 : goal.returns-in-MovsxByteLoad32
returns-in-MovsxByteLoad32 c =
    in_window c.in-MovsxByteLoad32.is refl refl c.move_load-in-MovsxByteLoad32.ensures.made
    c.move_load-in-MovsxByteLoad32.ensures.left c.move_load-in-MovsxByteLoad32.ensures.window
    c.move_load-in-MovsxByteLoad32.ensures.off c.move_load-in-MovsxByteLoad32.ensures.code
    c.move_load-in-MovsxByteLoad32.ensures.length c.move_load-in-MovsxByteLoad32.ensures.privilege

pub move_load-requires-in-MovsxWordLoad64 : goal.move_load-requires-in-MovsxWordLoad64
move_load-requires-in-MovsxWordLoad64 c = record {
  ready = c.requires.ready;
  width = is_64;
  register = c.requires.register (ap has_register_first c.in-MovsxWordLoad64.is);
  frames = c.requires.frames;
  window = c.requires.window;
}

pub returns-in-MovsxWordLoad64 : goal.returns-in-MovsxWordLoad64
returns-in-MovsxWordLoad64 c =
    in_window c.in-MovsxWordLoad64.is refl refl c.move_load-in-MovsxWordLoad64.ensures.made
    c.move_load-in-MovsxWordLoad64.ensures.left c.move_load-in-MovsxWordLoad64.ensures.window
    c.move_load-in-MovsxWordLoad64.ensures.off c.move_load-in-MovsxWordLoad64.ensures.code
    c.move_load-in-MovsxWordLoad64.ensures.length c.move_load-in-MovsxWordLoad64.ensures.privilege

pub move_load-requires-in-MovsxWordLoad32 : goal.move_load-requires-in-MovsxWordLoad32
move_load-requires-in-MovsxWordLoad32 c = record {
  ready = c.requires.ready;
  width = is_32;
  register = c.requires.register (ap has_register_first c.in-MovsxWordLoad32.is);
  frames = c.requires.frames;
  window = c.requires.window;
}

pub returns-in-MovsxWordLoad32 : goal.returns-in-MovsxWordLoad32
returns-in-MovsxWordLoad32 c =
    in_window c.in-MovsxWordLoad32.is refl refl c.move_load-in-MovsxWordLoad32.ensures.made
    c.move_load-in-MovsxWordLoad32.ensures.left c.move_load-in-MovsxWordLoad32.ensures.window
    c.move_load-in-MovsxWordLoad32.ensures.off c.move_load-in-MovsxWordLoad32.ensures.code
    c.move_load-in-MovsxWordLoad32.ensures.length c.move_load-in-MovsxWordLoad32.ensures.privilege

pub move_load-requires-in-MovsxdLoad64 : goal.move_load-requires-in-MovsxdLoad64
move_load-requires-in-MovsxdLoad64 c = record {
  ready = c.requires.ready;
  width = is_64;
  register = c.requires.register (ap has_register_first c.in-MovsxdLoad64.is);
  frames = c.requires.frames;
  window = c.requires.window;
}

pub returns-in-MovsxdLoad64 : goal.returns-in-MovsxdLoad64
returns-in-MovsxdLoad64 c =
    in_window c.in-MovsxdLoad64.is refl refl c.move_load-in-MovsxdLoad64.ensures.made
    c.move_load-in-MovsxdLoad64.ensures.left c.move_load-in-MovsxdLoad64.ensures.window
    c.move_load-in-MovsxdLoad64.ensures.off c.move_load-in-MovsxdLoad64.ensures.code
    c.move_load-in-MovsxdLoad64.ensures.length c.move_load-in-MovsxdLoad64.ensures.privilege

pub move_store-requires : goal.move_store-requires
move_store-requires c = record {
  ready = c.requires.ready;
  width = is_64;
  frames = c.requires.frames;
  window = c.requires.window;
}

pub returns-in-Store64 : goal.returns-in-Store64
returns-in-Store64 c =
    in_window c.in-Store64.is refl refl c.move_store.ensures.made c.move_store.ensures.left c.move_store.ensures.window
    c.move_store.ensures.off c.move_store.ensures.code c.move_store.ensures.length c.move_store.ensures.privilege

pub move_store-requires-in-Store32 : goal.move_store-requires-in-Store32
move_store-requires-in-Store32 c = record {
  ready = c.requires.ready;
  width = is_32;
  frames = c.requires.frames;
  window = c.requires.window;
}

pub returns-in-Store32 : goal.returns-in-Store32
returns-in-Store32 c =
    in_window c.in-Store32.is refl refl c.move_store-in-Store32.ensures.made c.move_store-in-Store32.ensures.left
    c.move_store-in-Store32.ensures.window c.move_store-in-Store32.ensures.off c.move_store-in-Store32.ensures.code
    c.move_store-in-Store32.ensures.length c.move_store-in-Store32.ensures.privilege

pub move_store-requires-in-Store16 : goal.move_store-requires-in-Store16
move_store-requires-in-Store16 c = record {
  ready = c.requires.ready;
  width = is_16;
  frames = c.requires.frames;
  window = c.requires.window;
}

pub returns-in-Store16 : goal.returns-in-Store16
returns-in-Store16 c =
    in_window c.in-Store16.is refl refl c.move_store-in-Store16.ensures.made c.move_store-in-Store16.ensures.left
    c.move_store-in-Store16.ensures.window c.move_store-in-Store16.ensures.off c.move_store-in-Store16.ensures.code
    c.move_store-in-Store16.ensures.length c.move_store-in-Store16.ensures.privilege

pub move_store-requires-in-Store8 : goal.move_store-requires-in-Store8
move_store-requires-in-Store8 c = record {
  ready = c.requires.ready;
  width = is_8;
  frames = c.requires.frames;
  window = c.requires.window;
}

pub returns-in-Store8 : goal.returns-in-Store8
returns-in-Store8 c =
    in_window c.in-Store8.is refl refl c.move_store-in-Store8.ensures.made c.move_store-in-Store8.ensures.left
    c.move_store-in-Store8.ensures.window c.move_store-in-Store8.ensures.off c.move_store-in-Store8.ensures.code
    c.move_store-in-Store8.ensures.length c.move_store-in-Store8.ensures.privilege

pub returns-in-Loop : goal.returns-in-Loop
returns-in-Loop c =
    alone c.in-Loop.is refl refl c.requires.window c.count_down.ensures.made c.count_down.ensures.left
    c.count_down.ensures.memory c.count_down.ensures.privilege

pub returns-in-Jump : goal.returns-in-Jump
returns-in-Jump c =
    alone c.in-Jump.is refl refl c.requires.window c.branch-quick.ensures.made c.branch-quick.ensures.left
    c.branch-quick.ensures.memory c.branch-quick.ensures.privilege

pub returns-in-JumpZero : goal.returns-in-JumpZero
returns-in-JumpZero c =
    alone c.in-JumpZero.is refl refl c.requires.window c.branch-quick-in-JumpZero.ensures.made
    c.branch-quick-in-JumpZero.ensures.left c.branch-quick-in-JumpZero.ensures.memory
    c.branch-quick-in-JumpZero.ensures.privilege

pub returns-in-JumpNotZero : goal.returns-in-JumpNotZero
returns-in-JumpNotZero c =
    alone c.in-JumpNotZero.is refl refl c.requires.window c.branch-quick-in-JumpNotZero.ensures.made
    c.branch-quick-in-JumpNotZero.ensures.left c.branch-quick-in-JumpNotZero.ensures.memory
    c.branch-quick-in-JumpNotZero.ensures.privilege

pub returns-in-JumpBelow : goal.returns-in-JumpBelow
returns-in-JumpBelow c =
    alone c.in-JumpBelow.is refl refl c.requires.window c.branch-quick-in-JumpBelow.ensures.made
    c.branch-quick-in-JumpBelow.ensures.left c.branch-quick-in-JumpBelow.ensures.memory
    c.branch-quick-in-JumpBelow.ensures.privilege

pub returns-in-JumpNotBelow : goal.returns-in-JumpNotBelow
returns-in-JumpNotBelow c =
    alone c.in-JumpNotBelow.is refl refl c.requires.window c.branch-quick-in-JumpNotBelow.ensures.made
    c.branch-quick-in-JumpNotBelow.ensures.left c.branch-quick-in-JumpNotBelow.ensures.memory
    c.branch-quick-in-JumpNotBelow.ensures.privilege

pub returns-in-JumpNotAbove : goal.returns-in-JumpNotAbove
returns-in-JumpNotAbove c =
    alone c.in-JumpNotAbove.is refl refl c.requires.window c.branch-quick-in-JumpNotAbove.ensures.made
    c.branch-quick-in-JumpNotAbove.ensures.left c.branch-quick-in-JumpNotAbove.ensures.memory
    c.branch-quick-in-JumpNotAbove.ensures.privilege

pub returns-in-JumpAbove : goal.returns-in-JumpAbove
returns-in-JumpAbove c =
    alone c.in-JumpAbove.is refl refl c.requires.window c.branch-quick-in-JumpAbove.ensures.made
    c.branch-quick-in-JumpAbove.ensures.left c.branch-quick-in-JumpAbove.ensures.memory
    c.branch-quick-in-JumpAbove.ensures.privilege

pub returns-in-JumpLess : goal.returns-in-JumpLess
returns-in-JumpLess c =
    alone c.in-JumpLess.is refl refl c.requires.window c.branch-quick-in-JumpLess.ensures.made
    c.branch-quick-in-JumpLess.ensures.left c.branch-quick-in-JumpLess.ensures.memory
    c.branch-quick-in-JumpLess.ensures.privilege

pub returns-in-JumpNotLess : goal.returns-in-JumpNotLess
returns-in-JumpNotLess c =
    alone c.in-JumpNotLess.is refl refl c.requires.window c.branch-quick-in-JumpNotLess.ensures.made
    c.branch-quick-in-JumpNotLess.ensures.left c.branch-quick-in-JumpNotLess.ensures.memory
    c.branch-quick-in-JumpNotLess.ensures.privilege

pub returns-in-JumpNotGreater : goal.returns-in-JumpNotGreater
returns-in-JumpNotGreater c =
    alone c.in-JumpNotGreater.is refl refl c.requires.window c.branch-quick-in-JumpNotGreater.ensures.made
    c.branch-quick-in-JumpNotGreater.ensures.left c.branch-quick-in-JumpNotGreater.ensures.memory
    c.branch-quick-in-JumpNotGreater.ensures.privilege

pub returns-in-JumpGreater : goal.returns-in-JumpGreater
returns-in-JumpGreater c =
    alone c.in-JumpGreater.is refl refl c.requires.window c.branch-quick-in-JumpGreater.ensures.made
    c.branch-quick-in-JumpGreater.ensures.left c.branch-quick-in-JumpGreater.ensures.memory
    c.branch-quick-in-JumpGreater.ensures.privilege

pub load_address-requires : goal.load_address-requires
load_address-requires c = record {
  ready = c.requires.ready;
  kind = c.in-Address.is;
  register = c.requires.register (ap has_register_first c.in-Address.is);
}

pub returns-in-Address : goal.returns-in-Address
returns-in-Address c =
    own_alone c.in-Address.is refl refl c.requires.window c.load_address.ensures.made c.load_address.ensures.left
    c.load_address.ensures.memory c.load_address.ensures.privilege

pub push-requires : goal.push-requires
push-requires c = record {
  ready = c.requires.ready;
  width = is_64;
  frames = c.requires.frames;
  window = c.requires.window;
}

pub returns-in-Push64 : goal.returns-in-Push64
returns-in-Push64 c =
    in_window c.in-Push64.is refl refl c.push.ensures.made c.push.ensures.left c.push.ensures.window c.push.ensures.off
    c.push.ensures.code c.push.ensures.length c.push.ensures.privilege

pub pop-requires : goal.pop-requires
pop-requires c = record {
  ready = c.requires.ready;
  width = is_64;
  register = c.requires.register (ap has_register_first c.in-Pop64.is);
  frames = c.requires.frames;
  window = c.requires.window;
}

pub returns-in-Pop64 : goal.returns-in-Pop64
returns-in-Pop64 c =
    in_window c.in-Pop64.is refl refl c.pop.ensures.made c.pop.ensures.left c.pop.ensures.window c.pop.ensures.off
    c.pop.ensures.code c.pop.ensures.length c.pop.ensures.privilege

pub call-requires : goal.call-requires
call-requires c = record {
  ready = c.requires.ready;
  kind = c.in-Call.is;
  frames = c.requires.frames;
  window = c.requires.window;
}

pub returns-in-Call : goal.returns-in-Call
returns-in-Call c =
    own c.in-Call.is refl refl c.call.ensures.made c.call.ensures.left c.call.ensures.window c.call.ensures.off
    c.call.ensures.code c.call.ensures.length c.call.ensures.privilege

pub ret-requires : goal.ret-requires
ret-requires c = record {
  ready = c.requires.ready;
  kind = c.in-Return.is;
  frames = c.requires.frames;
  window = c.requires.window;
}

pub returns-in-Return : goal.returns-in-Return
returns-in-Return c =
    own c.in-Return.is refl refl c.ret.ensures.made c.ret.ensures.left c.ret.ensures.window c.ret.ensures.off
    c.ret.ensures.code c.ret.ensures.length c.ret.ensures.privilege

pub returns-in_default : goal.returns-in_default
returns-in_default c = c.make_rest.ensures

pub make_rest-requires : goal.make_rest-requires
make_rest-requires c = record {
  ready = c.requires.ready;
  register = c.requires.register;
  frames = c.requires.frames;
  window = c.requires.window;
}
