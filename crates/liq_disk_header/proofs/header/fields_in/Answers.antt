use Rattle.std.proofs.Common.{◌≡◌, ◌∙◌, ◌+◌, ◌-◌, ℕ, take, drop, ap, refl, arith}
use Rattle.liq_disk_header.specs.Layout.{piece}
use Rattle.liq_disk_header.proofs.Fields.{fields_of_version}
use Rattle.liq_disk_header.proofs.header.fields_in.Goals as goal

pub returns : goal.returns
returns c =
    let bytes = c.args.bytes.now in
    let fields : c.copy_from_slice.new.self ≡ piece 1 32 bytes = c.copy_from_slice.ensures.after in
    let digest = 1 + c.fields_size-digest.result in
    let count : digest + 32 - digest ≡ 32 = omega arith in
    let stored : c.copy_from_slice-2.new.self ≡ piece digest 32 bytes = c.copy_from_slice-2.ensures.after
    ∙ ap (λ (n : ℕ). take n (drop digest bytes)) count in
    fields_of_version c.args.limit c.requires.limit _ bytes refl c.u64_at.ensures c.u64_at-2.ensures fields (stored
    ∙ ap (λ (n : ℕ). piece (1 + n) 32 bytes) c.fields_size-digest.ensures)
