use Rattle.std.proofs.Common.{ap, refl}
use Rattle.exec_quick.specs.QuickForms.{has_register_first}
use Rattle.exec_quick.proofs.Arms.{alone, in_window, own, own_alone, supervised, supervised_alone}
use Rattle.exec_quick.proofs.turn.make_rest.Goals as goal

pub combine-requires : goal.combine-requires
combine-requires c = record {
  ready = c.requires.ready;
  width = c.requires.ready.width;
  register = c.requires.register (ap has_register_first c.in-Combine.is);
}

pub returns-in-Combine : goal.returns-in-Combine
returns-in-Combine c =
    alone c.in-Combine.is refl refl c.requires.window c.combine.ensures.made c.combine.ensures.left
    c.combine.ensures.memory c.combine.ensures.privilege

pub compare-requires : goal.compare-requires
compare-requires c = record {
  ready = c.requires.ready;
  width = c.requires.ready.width;
  register = c.requires.register (ap has_register_first c.in-Compare.is);
}

pub returns-in-Compare : goal.returns-in-Compare
returns-in-Compare c =
    alone c.in-Compare.is refl refl c.requires.window c.compare.ensures.made c.compare.ensures.left
    c.compare.ensures.memory c.compare.ensures.privilege

pub combine_load-requires : goal.combine_load-requires
combine_load-requires c = record {
  ready = c.requires.ready;
  width = c.requires.ready.width;
  register = c.requires.register (ap has_register_first c.in-CombineLoad.is);
  frames = c.requires.frames;
  window = c.requires.window;
}

pub returns-in-CombineLoad : goal.returns-in-CombineLoad
returns-in-CombineLoad c =
    in_window c.in-CombineLoad.is refl refl c.combine_load.ensures.made c.combine_load.ensures.left
    c.combine_load.ensures.window c.combine_load.ensures.off c.combine_load.ensures.code
    c.combine_load.ensures.length c.combine_load.ensures.privilege

pub combine_store-requires : goal.combine_store-requires
combine_store-requires c = record {
  ready = c.requires.ready;
  width = c.requires.ready.width;
  frames = c.requires.frames;
  window = c.requires.window;
}

pub returns-in-CombineStore : goal.returns-in-CombineStore
returns-in-CombineStore c =
    in_window c.in-CombineStore.is refl refl c.combine_store.ensures.made c.combine_store.ensures.left
    c.combine_store.ensures.window c.combine_store.ensures.off c.combine_store.ensures.code
    c.combine_store.ensures.length c.combine_store.ensures.privilege

pub compare_load-requires : goal.compare_load-requires
compare_load-requires c = record {
  ready = c.requires.ready;
  width = c.requires.ready.width;
  register = c.requires.register (ap has_register_first c.in-CompareLoad.is);
  frames = c.requires.frames;
  window = c.requires.window;
}

pub returns-in-CompareLoad : goal.returns-in-CompareLoad
returns-in-CompareLoad c =
    in_window c.in-CompareLoad.is refl refl c.compare_load.ensures.made c.compare_load.ensures.left
    c.compare_load.ensures.window c.compare_load.ensures.off c.compare_load.ensures.code
    c.compare_load.ensures.length c.compare_load.ensures.privilege

pub compare_store-requires : goal.compare_store-requires
compare_store-requires c = record {
  ready = c.requires.ready;
  width = c.requires.ready.width;
  frames = c.requires.frames;
  window = c.requires.window;
}

pub returns-in-CompareStore : goal.returns-in-CompareStore
returns-in-CompareStore c =
    in_window c.in-CompareStore.is refl refl c.compare_store.ensures.made c.compare_store.ensures.left
    c.compare_store.ensures.window c.compare_store.ensures.off c.compare_store.ensures.code
    c.compare_store.ensures.length c.compare_store.ensures.privilege

pub move_over-requires : goal.move_over-requires
move_over-requires c = record {
  ready = c.requires.ready;
  width = c.requires.ready.width;
  register = c.requires.register (ap has_register_first c.in-Move.is);
}

pub returns-in-Move : goal.returns-in-Move
returns-in-Move c =
    alone c.in-Move.is refl refl c.requires.window c.move_over.ensures.made c.move_over.ensures.left
    c.move_over.ensures.memory c.move_over.ensures.privilege

pub move_load-requires : goal.move_load-requires
move_load-requires c = record {
  ready = c.requires.ready;
  width = c.requires.ready.width;
  register = c.requires.register (ap has_register_first c.in-MoveLoad.is);
  frames = c.requires.frames;
  window = c.requires.window;
}

pub returns-in-MoveLoad : goal.returns-in-MoveLoad
returns-in-MoveLoad c =
    in_window c.in-MoveLoad.is refl refl c.move_load.ensures.made c.move_load.ensures.left c.move_load.ensures.window
    c.move_load.ensures.off c.move_load.ensures.code c.move_load.ensures.length c.move_load.ensures.privilege

pub move_store-requires : goal.move_store-requires
move_store-requires c = record {
  ready = c.requires.ready;
  width = c.requires.ready.width;
  frames = c.requires.frames;
  window = c.requires.window;
}

pub returns-in-MoveStore : goal.returns-in-MoveStore
returns-in-MoveStore c =
    in_window c.in-MoveStore.is refl refl c.move_store.ensures.made c.move_store.ensures.left
    c.move_store.ensures.window c.move_store.ensures.off c.move_store.ensures.code c.move_store.ensures.length
    c.move_store.ensures.privilege

pub returns-in-Branch : goal.returns-in-Branch
returns-in-Branch c =
    alone c.in-Branch.is refl refl c.requires.window c.branch-quick.ensures.made c.branch-quick.ensures.left
    c.branch-quick.ensures.memory c.branch-quick.ensures.privilege

pub returns-in-CountDown : goal.returns-in-CountDown
returns-in-CountDown c =
    alone c.in-CountDown.is refl refl c.requires.window c.count_down.ensures.made c.count_down.ensures.left
    c.count_down.ensures.memory c.count_down.ensures.privilege

pub push-requires : goal.push-requires
push-requires c = record {
  ready = c.requires.ready;
  width = c.requires.ready.width;
  frames = c.requires.frames;
  window = c.requires.window;
}

pub returns-in-Push : goal.returns-in-Push
returns-in-Push c =
    in_window c.in-Push.is refl refl c.push.ensures.made c.push.ensures.left c.push.ensures.window c.push.ensures.off
    c.push.ensures.code c.push.ensures.length c.push.ensures.privilege

pub pop-requires : goal.pop-requires
pop-requires c = record {
  ready = c.requires.ready;
  width = c.requires.ready.width;
  register = c.requires.register (ap has_register_first c.in-Pop.is);
  frames = c.requires.frames;
  window = c.requires.window;
}

pub returns-in-Pop : goal.returns-in-Pop
returns-in-Pop c =
    in_window c.in-Pop.is refl refl c.pop.ensures.made c.pop.ensures.left c.pop.ensures.window c.pop.ensures.off
    c.pop.ensures.code c.pop.ensures.length c.pop.ensures.privilege

pub push_load-requires : goal.push_load-requires
push_load-requires c = record {
  ready = c.requires.ready;
  kind = c.in-PushLoad.is;
  frames = c.requires.frames;
  window = c.requires.window;
}

pub returns-in-PushLoad : goal.returns-in-PushLoad
returns-in-PushLoad c =
    own c.in-PushLoad.is refl refl c.push_load.ensures.made c.push_load.ensures.left c.push_load.ensures.window
    c.push_load.ensures.off c.push_load.ensures.code c.push_load.ensures.length c.push_load.ensures.privilege

pub leave-requires : goal.leave-requires
leave-requires c = record {
  ready = c.requires.ready;
  kind = c.in-Leave.is;
  frames = c.requires.frames;
  window = c.requires.window;
}

pub returns-in-Leave : goal.returns-in-Leave
returns-in-Leave c =
    own c.in-Leave.is refl refl c.leave.ensures.made c.leave.ensures.left c.leave.ensures.window c.leave.ensures.off
    c.leave.ensures.code c.leave.ensures.length c.leave.ensures.privilege

pub branch_load-requires : goal.branch_load-requires
branch_load-requires c = record {
  ready = c.requires.ready;
  kind = c.in-BranchLoad.is;
  frames = c.requires.frames;
  window = c.requires.window;
}

pub returns-in-BranchLoad : goal.returns-in-BranchLoad
returns-in-BranchLoad c =
    own c.in-BranchLoad.is refl refl c.branch_load.ensures.made c.branch_load.ensures.left c.branch_load.ensures.window
    c.branch_load.ensures.off c.branch_load.ensures.code c.branch_load.ensures.length c.branch_load.ensures.privilege

pub call_load-requires : goal.call_load-requires
call_load-requires c = record {
  ready = c.requires.ready;
  kind = c.in-CallLoad.is;
  frames = c.requires.frames;
  window = c.requires.window;
}

pub returns-in-CallLoad : goal.returns-in-CallLoad
returns-in-CallLoad c =
    own c.in-CallLoad.is refl refl c.call_load.ensures.made c.call_load.ensures.left c.call_load.ensures.window
    c.call_load.ensures.off c.call_load.ensures.code c.call_load.ensures.length c.call_load.ensures.privilege

pub scan_bits-requires : goal.scan_bits-requires
scan_bits-requires c = record {
  ready = c.requires.ready;
  kind = c.in-ScanBits.is;
  register = c.requires.register (ap has_register_first c.in-ScanBits.is);
}

pub returns-in-ScanBits : goal.returns-in-ScanBits
returns-in-ScanBits c =
    own_alone c.in-ScanBits.is refl refl c.requires.window c.scan_bits.ensures.made c.scan_bits.ensures.left
    c.scan_bits.ensures.memory c.scan_bits.ensures.privilege

pub scan_bits_load-requires : goal.scan_bits_load-requires
scan_bits_load-requires c = record {
  ready = c.requires.ready;
  kind = c.in-ScanBitsLoad.is;
  register = c.requires.register (ap has_register_first c.in-ScanBitsLoad.is);
  frames = c.requires.frames;
  window = c.requires.window;
}

pub returns-in-ScanBitsLoad : goal.returns-in-ScanBitsLoad
returns-in-ScanBitsLoad c =
    own c.in-ScanBitsLoad.is refl refl c.scan_bits_load.ensures.made c.scan_bits_load.ensures.left
    c.scan_bits_load.ensures.window c.scan_bits_load.ensures.off c.scan_bits_load.ensures.code
    c.scan_bits_load.ensures.length c.scan_bits_load.ensures.privilege

pub multiply-requires : goal.multiply-requires
multiply-requires c = record { ready = c.requires.ready; kind = c.in-Multiply.is }

pub returns-in-Multiply : goal.returns-in-Multiply
returns-in-Multiply c =
    own_alone c.in-Multiply.is refl refl c.requires.window c.multiply.ensures.made c.multiply.ensures.left
    c.multiply.ensures.memory c.multiply.ensures.privilege

pub multiply_load-requires : goal.multiply_load-requires
multiply_load-requires c = record {
  ready = c.requires.ready;
  kind = c.in-MultiplyLoad.is;
  frames = c.requires.frames;
  window = c.requires.window;
}

pub returns-in-MultiplyLoad : goal.returns-in-MultiplyLoad
returns-in-MultiplyLoad c =
    own c.in-MultiplyLoad.is refl refl c.multiply_load.ensures.made c.multiply_load.ensures.left
    c.multiply_load.ensures.window c.multiply_load.ensures.off c.multiply_load.ensures.code
    c.multiply_load.ensures.length c.multiply_load.ensures.privilege

pub divide-requires : goal.divide-requires
divide-requires c = record { ready = c.requires.ready; kind = c.in-Divide.is }

pub returns-in-Divide : goal.returns-in-Divide
returns-in-Divide c =
    own_alone c.in-Divide.is refl refl c.requires.window c.divide.ensures.made c.divide.ensures.left
    c.divide.ensures.memory c.divide.ensures.privilege

pub divide_load-requires : goal.divide_load-requires
divide_load-requires c = record {
  ready = c.requires.ready;
  kind = c.in-DivideLoad.is;
  frames = c.requires.frames;
  window = c.requires.window;
}

pub returns-in-DivideLoad : goal.returns-in-DivideLoad
returns-in-DivideLoad c =
    own c.in-DivideLoad.is refl refl c.divide_load.ensures.made c.divide_load.ensures.left c.divide_load.ensures.window
    c.divide_load.ensures.off c.divide_load.ensures.code c.divide_load.ensures.length c.divide_load.ensures.privilege

pub widen-requires : goal.widen-requires
widen-requires c = record { ready = c.requires.ready; kind = c.in-Widen.is }

pub returns-in-Widen : goal.returns-in-Widen
returns-in-Widen c =
    own_alone c.in-Widen.is refl refl c.requires.window c.widen.ensures.made c.widen.ensures.left
    c.widen.ensures.memory c.widen.ensures.privilege

pub double-requires : goal.double-requires
double-requires c = record { ready = c.requires.ready; kind = c.in-Double.is }

pub returns-in-Double : goal.returns-in-Double
returns-in-Double c =
    own_alone c.in-Double.is refl refl c.requires.window c.double.ensures.made c.double.ensures.left
    c.double.ensures.memory c.double.ensures.privilege

pub change_flag-requires : goal.change_flag-requires
change_flag-requires c = record { ready = c.requires.ready; kind = c.in-ChangeFlag.is }

pub returns-in-ChangeFlag : goal.returns-in-ChangeFlag
returns-in-ChangeFlag c =
    own_alone c.in-ChangeFlag.is refl refl c.requires.window c.change_flag.ensures.made c.change_flag.ensures.left
    c.change_flag.ensures.memory c.change_flag.ensures.privilege

pub nothing-requires : goal.nothing-requires
nothing-requires c = record { ready = c.requires.ready; kind = c.in-Nothing.is }

pub returns-in-Nothing : goal.returns-in-Nothing
returns-in-Nothing c =
    own_alone c.in-Nothing.is refl refl c.requires.window c.nothing.ensures.made c.nothing.ensures.left
    c.nothing.ensures.memory c.nothing.ensures.privilege

pub push_flags-requires : goal.push_flags-requires
push_flags-requires c = record {
  ready = c.requires.ready;
  kind = c.in-PushFlags.is;
  frames = c.requires.frames;
  window = c.requires.window;
}

pub returns-in-PushFlags : goal.returns-in-PushFlags
returns-in-PushFlags c =
    supervised c.in-PushFlags.is refl c.push_flags.ensures.supervisor c.push_flags.ensures.made
    c.push_flags.ensures.left c.push_flags.ensures.window c.push_flags.ensures.off c.push_flags.ensures.code
    c.push_flags.ensures.length c.push_flags.ensures.privilege

pub pop_flags-requires : goal.pop_flags-requires
pop_flags-requires c = record {
  ready = c.requires.ready;
  kind = c.in-PopFlags.is;
  frames = c.requires.frames;
  window = c.requires.window;
}

pub returns-in-PopFlags : goal.returns-in-PopFlags
returns-in-PopFlags c =
    supervised c.in-PopFlags.is refl c.pop_flags.ensures.supervisor c.pop_flags.ensures.made c.pop_flags.ensures.left
    c.pop_flags.ensures.window c.pop_flags.ensures.off c.pop_flags.ensures.code c.pop_flags.ensures.length
    c.pop_flags.ensures.privilege

pub clear_interrupts-requires : goal.clear_interrupts-requires
clear_interrupts-requires c = record { ready = c.requires.ready; kind = c.in-ClearInterrupts.is }

pub returns-in-ClearInterrupts : goal.returns-in-ClearInterrupts
returns-in-ClearInterrupts c =
    supervised_alone c.in-ClearInterrupts.is refl c.clear_interrupts.ensures.supervisor c.requires.window
    c.clear_interrupts.ensures.made c.clear_interrupts.ensures.left c.clear_interrupts.ensures.memory
    c.clear_interrupts.ensures.privilege

pub from_control-requires : goal.from_control-requires
from_control-requires c = record {
  ready = c.requires.ready;
  kind = c.in-FromControl.is;
  register = c.requires.register (ap has_register_first c.in-FromControl.is);
}

pub returns-in-FromControl : goal.returns-in-FromControl
returns-in-FromControl c =
    supervised_alone c.in-FromControl.is refl c.from_control.ensures.supervisor c.requires.window
    c.from_control.ensures.made c.from_control.ensures.left c.from_control.ensures.memory
    c.from_control.ensures.privilege

pub move_string-requires : goal.move_string-requires
move_string-requires c = record {
  ready = c.requires.ready;
  kind = c.in-MoveString.is;
  frames = c.requires.frames;
  window = c.requires.window;
}

pub returns-in-MoveString : goal.returns-in-MoveString
returns-in-MoveString c =
    own c.in-MoveString.is refl refl c.move_string.ensures.made c.move_string.ensures.left c.move_string.ensures.window
    c.move_string.ensures.off c.move_string.ensures.code c.move_string.ensures.length c.move_string.ensures.privilege

pub store_string-requires : goal.store_string-requires
store_string-requires c = record {
  ready = c.requires.ready;
  kind = c.in-StoreString.is;
  frames = c.requires.frames;
  window = c.requires.window;
}

pub returns-in-StoreString : goal.returns-in-StoreString
returns-in-StoreString c =
    own c.in-StoreString.is refl refl c.store_string.ensures.made c.store_string.ensures.left
    c.store_string.ensures.window c.store_string.ensures.off c.store_string.ensures.code
    c.store_string.ensures.length c.store_string.ensures.privilege

pub load_string-requires : goal.load_string-requires
load_string-requires c = record {
  ready = c.requires.ready;
  kind = c.in-LoadString.is;
  frames = c.requires.frames;
  window = c.requires.window;
}

pub returns-in-LoadString : goal.returns-in-LoadString
returns-in-LoadString c =
    own c.in-LoadString.is refl refl c.load_string.ensures.made c.load_string.ensures.left c.load_string.ensures.window
    c.load_string.ensures.off c.load_string.ensures.code c.load_string.ensures.length c.load_string.ensures.privilege

pub compare_strings-requires : goal.compare_strings-requires
compare_strings-requires c = record {
  ready = c.requires.ready;
  kind = c.in-CompareStrings.is;
  frames = c.requires.frames;
  window = c.requires.window;
}

pub returns-in-CompareStrings : goal.returns-in-CompareStrings
returns-in-CompareStrings c =
    own c.in-CompareStrings.is refl refl c.compare_strings.ensures.made c.compare_strings.ensures.left
    c.compare_strings.ensures.window c.compare_strings.ensures.off c.compare_strings.ensures.code
    c.compare_strings.ensures.length c.compare_strings.ensures.privilege

pub scan_string-requires : goal.scan_string-requires
scan_string-requires c = record {
  ready = c.requires.ready;
  kind = c.in-ScanString.is;
  frames = c.requires.frames;
  window = c.requires.window;
}

pub returns-in-ScanString : goal.returns-in-ScanString
returns-in-ScanString c =
    own c.in-ScanString.is refl refl c.scan_string.ensures.made c.scan_string.ensures.left c.scan_string.ensures.window
    c.scan_string.ensures.off c.scan_string.ensures.code c.scan_string.ensures.length c.scan_string.ensures.privilege
