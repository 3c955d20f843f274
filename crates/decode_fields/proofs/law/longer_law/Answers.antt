use Rattle.decode_fields.proofs.FieldLaws.{immediate_of-append, modrm_length-within, modrm_of-append}
use Rattle.decode_fields.proofs.PrefixLaws.{prefix_bytes-append}
use Rattle.decode_fields.proofs.ProtectedLaws.{is_protected_at-append, length_at-append}
use Rattle.decode_fields.proofs.law.longer_law.Goals as goal

pub returns : goal.returns
returns c = record {
  prefixes = λ front more byte all ends. prefix_bytes-append front byte more all ends;
  modrm = λ bytes more rex there. modrm_of-append bytes more rex there;
  needed = λ bytes more there. modrm_length-within bytes more there;
  immediate = λ bytes more width there. immediate_of-append bytes more width there;
  protected = λ bytes more place h. is_protected_at-append bytes more place h;
  protected_length = λ bytes more place h. length_at-append bytes more place h;
}
