-- The layout of the nested kernel, a row each: the frames that every opening has at the same place, and the linear addresses
-- at which those of the nested area stand.
use Rattle.std.specs.Prelude.{ℕ}

-- frame 0: the interrupt descriptor table and the task-state segment
abbrev pub idt_and_tss : ℕ
idt_and_tss = 0

-- frame 1: the text of the gates
abbrev pub gate_text : ℕ
gate_text = 1

-- frame 2: the address of the outer kernel's trap handler
abbrev pub handler_slot : ℕ
handler_slot = 2

-- frame 3: where every delivery begins to push
abbrev pub trap_stack : ℕ
trap_stack = 3

-- frame 4: the stack of the nested kernel
abbrev pub nested_stack : ℕ
nested_stack = 4

-- frame 5: the opening's table of level 4
abbrev pub opening_root : ℕ
opening_root = 5

-- frame 6: the kernel slot's table of level 3
abbrev pub slot_table : ℕ
slot_table = 6

-- frames 7 and 8: the nested area's table of level 2, and that of level 1
abbrev pub area_directory : ℕ
area_directory = 7

abbrev pub area_table : ℕ
area_table = 8

-- frame 9: the image's table of level 2
abbrev pub image_directory : ℕ
image_directory = 9

-- frames 10 to 25: the pool of regions; the write log begins behind it
abbrev pub pool_frame : ℕ
pool_frame = 10

abbrev pub pool_end : ℕ
pool_end = 26

-- the nested area's first page, where the interrupt descriptor table stands, and the task-state segment on the same page
abbrev pub area_start : ℕ
area_start = 0xFFFFFF8000000000

abbrev pub tss_address : ℕ
tss_address = 0xFFFFFF8000000400

-- the gates' text, at which the outer kernel calls
abbrev pub gate_address : ℕ
gate_address = 0xFFFFFF8000001000

-- in the entry gate, where the nested kernel does its work, and where the exit gate goes on behind it
abbrev pub body_address : ℕ
body_address = 0xFFFFFF800000101B

abbrev pub exit_address : ℕ
exit_address = 0xFFFFFF800000101D

-- the top of the trap stack, which is IST1
abbrev pub trap_stack_top : ℕ
trap_stack_top = 0xFFFFFF8000004000

-- the top of the nested kernel's stack
abbrev pub nested_stack_top : ℕ
nested_stack_top = 0xFFFFFF8000005000

-- the pool's 65,536 bytes
abbrev pub pool_start : ℕ
pool_start = 0xFFFFFF8000010000
