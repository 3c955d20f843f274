-- What is used of the laws of the crates below.
use Rattle.nk_bits.specs.WalkLaws.{UpperLaws, WalkLaws}
use Rattle.nk_bits.specs.TranslationLaws.{KeptLaws}
use Rattle.nk_bits.specs.AccessLaws.{AccessLaws}
use Rattle.nk_bits.specs.KindLaws.{KindLaws}
use Rattle.phys_mem.specs.MemoryLaws.{FrameLaws, MemoryLaws}
use Rattle.phys_mem.specs.MaskLaws.{MaskLaws}
use Rattle.boot_map.specs.SlotLaws.{SlotLaws, SlotLeafLaws, SlotUpperLaws}
use Rattle.boot_map.specs.OpeningLaws.{OpeningBytesLaws, OpeningEntriesLaws, OpeningKindsLaws}
use Rattle.page_desc.specs.CountLaws.{CountLaws}
use Rattle.page_desc.specs.SoundLaws.{SoundLaws}
use Rattle.nk_body.specs.BookLaws.{OpeningSoundLaws, StoresLaws}
use Rattle.nk_body.specs.CallLaws.{CallLaws, CallLeavesLaws}
use Rattle.decode_fields.specs.FieldLaws.{LongerLaws, PrefixesLaws}
use Rattle.x86_decode.specs.SpellingLaws.{DecodingLaws, SpellingLaws}
use Rattle.gate_text.specs.ListingLaws.{ListingLaws}
use Rattle.x86_alu.specs.FlagLaws.{FlagLaws}
use Rattle.x86_regs.specs.EffectLaws.{BoundLaws, EffectLaws, GrantLaws}
use Rattle.x86_regs.specs.AlikeLaws.{AlikeLaws}
use Rattle.trap_unit.specs.DeliveryLaws.{AlikeReadsLaws}
use Rattle.cpu_step.specs.TurnLaws.{AlikeFetchLaws, FetchLaws, PendingLaws, TurnStoresLaws}

pub record LowerLaws : Type 0 where
  -- what is kept of walks, what accesses find, and kinds of frames
  pub walk : WalkLaws
  pub upper : UpperLaws
  pub kept : KeptLaws
  pub access : AccessLaws
  pub kind : KindLaws
  -- memory after stores, and with frames hidden
  pub memory : MemoryLaws
  pub frame : FrameLaws
  pub mask : MaskLaws
  -- the opening: its kernel slot, kinds, bytes and entries
  pub slot : SlotLaws
  pub slot_upper : SlotUpperLaws
  pub slot_leaf : SlotLeafLaws
  pub opening_kinds : OpeningKindsLaws
  pub opening_bytes : OpeningBytesLaws
  pub opening_entries : OpeningEntriesLaws
  -- sound page tables
  pub count : CountLaws
  pub sound : SoundLaws
  -- calls, stores and the opening's tables
  pub stores : StoresLaws
  pub opening_sound : OpeningSoundLaws
  pub call : CallLaws
  pub call_leaves : CallLeavesLaws
  -- spellings, and the gates' text
  pub prefixes : PrefixesLaws
  pub longer : LongerLaws
  pub decoding : DecodingLaws
  pub spelling : SpellingLaws
  pub listing : ListingLaws
  -- instructions, deliveries and turns
  pub flag : FlagLaws
  pub effect : EffectLaws
  pub grant : GrantLaws
  pub bound : BoundLaws
  pub alike : AlikeLaws
  pub alike_reads : AlikeReadsLaws
  pub fetch : FetchLaws
  pub alike_fetch : AlikeFetchLaws
  pub turn_stores : TurnStoresLaws
  pub pending : PendingLaws
