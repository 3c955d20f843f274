use Rattle.std.proofs.Common.{◌≡◌, ℕ, ◌<◌, ◌≤◌, List, length, ap}
use Rattle.nk_bits.specs.declared.kind.Kind.{Kind}
use Rattle.nk_bits.specs.declared.kind.Kind.TheVariants.{Data}
use Rattle.nk_bits.specs.Kinds.{is_data, kind_of, level_of}
use Rattle.page_desc.proofs.GuardedFrames.{guarded_described, guarded_loose, guarded_sound, guarded_tables}
use Rattle.page_desc.proofs.laws.guarded_law.Goals as goal

pub returns : goal.returns
returns c =
    let table : (kinds : List Kind) (f : ℕ) → 1 ≤ level_of (kind_of kinds f) → f < length kinds =
    c.kind_law.ensures.table_in_memory in
    let inside : (kinds : List Kind) (f : ℕ) → kind_of kinds f ≡ Data → f < length kinds =
    λ kinds f is. c.kind_law.ensures.data_in_memory kinds f (ap is_data is) in
    record {
      sound = λ kinds root f m sound is none. guarded_sound kinds f (inside kinds f is) is root m sound (table kinds) none;
      tables = λ kinds root f m sound is. guarded_tables kinds f (inside kinds f is) is root m;
      loose = λ kinds root f frame m sound is. guarded_loose kinds f (inside kinds f is) is root m sound frame;
      described = λ d root f m are is none. guarded_described d root f m (inside d.kinds f is) (table d.kinds) are is none;
    }
