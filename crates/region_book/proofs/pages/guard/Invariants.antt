use Rattle.std.proofs.Common.{◌≡◌, drop}
use Rattle.page_desc.specs.DescriptorBytes.{DiffersInDescriptors, HoldsDescriptors, descriptors_in, kinds_in}
use Rattle.region_book.specs.RegionCalls.{guarded}
use Rattle.region_book.proofs.pages.guard.Given as goal

abbrev pub invariant-loop-frame : goal.invariant-loop-frame
invariant-loop-frame l = record {
  left : guarded (kinds_in l.fn.mem) l.list ≡ guarded (kinds_in l.mem) (drop l.frame-index l.list);
  loose : (descriptors_in l.mem).loose ≡ (descriptors_in l.fn.mem).loose;
  links : (descriptors_in l.mem).links ≡ (descriptors_in l.fn.mem).links;
  stays : l.frames ≡ l.fn.frames;
  held : HoldsDescriptors l.frames l.mem;
  elsewhere : DiffersInDescriptors l.fn.mem l.mem;
}
