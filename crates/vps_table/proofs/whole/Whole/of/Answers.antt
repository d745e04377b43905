-- The sections stand in the table's order, each with its start.
use Rattle.std.proofs.Common.{rules}
use Rattle.vps_definition.specs.Vps.{SetsRead}
use Rattle.vps_fields.specs.Header.{header_of}
use Rattle.vps_table.specs.Whole.{so_header, no_header, so_layers, no_layers, so_sets, no_sets, so_ptls, no_ptls, so_olss, no_olss, so_buffers, no_buffers, so_done, no_flag}
use Rattle.vps_table.proofs.whole.Whole.of.Goals as goal

pub returns-in_err-h : goal.returns-in_err-h
returns-in_err-h g c = let b = no_header g.S.Steps.laws c.args.steps.now c.in_err-h.ensures in search (rules, b)

pub returns-in_err-closed : goal.returns-in_err-closed
returns-in_err-closed g c =
    let L = g.S.Steps.laws in
    let s = c.args.steps.now in
    let h = header_of c.in_ok-h.h in
    let F₁ = so_header L s (rw c.in_ok-h.ensures.1 at c.in_ok-h.ensures.2) in
    let b = no_layers L s h F₁ c.in_err-closed.ensures in
    search (rules, b)

pub returns-in_err-sets : goal.returns-in_err-sets
returns-in_err-sets g c =
    let L = g.S.Steps.laws in
    let s = c.args.steps.now in
    let h = header_of c.in_ok-h.h in
    let F₁ = so_header L s (rw c.in_ok-h.ensures.1 at c.in_ok-h.ensures.2) in
    let K = c.in_ok-closed.ensures in
    let F₂ = so_layers L s h F₁ K.2 in
    let b = no_sets L s h K.0 F₂ (c.in_err-sets.ensures K.0.refs K.1) in
    search (rules, b)

pub returns-in_err-count : goal.returns-in_err-count
returns-in_err-count g c =
    let L = g.S.Steps.laws in
    let s = c.args.steps.now in
    let h = header_of c.in_ok-h.h in
    let F₁ = so_header L s (rw c.in_ok-h.ensures.1 at c.in_ok-h.ensures.2) in
    let K = c.in_ok-closed.ensures in
    let F₂ = so_layers L s h F₁ K.2 in
    let X = c.in_ok-sets.ensures K.0.refs K.1 in
    let F₃ = so_sets L s h K.0 F₂ X.2 in
    let b = no_ptls L s h K.0 _ X.1.all F₃ c.in_err-count.ensures in
    search (rules, b)

pub returns-in_err-ols_section : goal.returns-in_err-ols_section
returns-in_err-ols_section g c =
    let L = g.S.Steps.laws in
    let s = c.args.steps.now in
    let h = header_of c.in_ok-h.h in
    let F₁ = so_header L s (rw c.in_ok-h.ensures.1 at c.in_ok-h.ensures.2) in
    let K = c.in_ok-closed.ensures in
    let F₂ = so_layers L s h F₁ K.2 in
    let X = c.in_ok-sets.ensures K.0.refs K.1 in
    let F₃ = so_sets L s h K.0 F₂ X.2 in
    let F₄ = so_ptls L s h K.0 _ X.1.all F₃ c.in_ok-count.ensures in
    let b = no_olss L s h K.0 _ X.1.all _ F₄ c.in_err-ols_section.ensures in
    search (rules, b)

pub returns-in_err-buffers : goal.returns-in_err-buffers
returns-in_err-buffers g c =
    let L = g.S.Steps.laws in
    let s = c.args.steps.now in
    let h = header_of c.in_ok-h.h in
    let F₁ = so_header L s (rw c.in_ok-h.ensures.1 at c.in_ok-h.ensures.2) in
    let K = c.in_ok-closed.ensures in
    let F₂ = so_layers L s h F₁ K.2 in
    let X = c.in_ok-sets.ensures K.0.refs K.1 in
    let F₃ = so_sets L s h K.0 F₂ X.2 in
    let F₄ = so_ptls L s h K.0 _ X.1.all F₃ c.in_ok-count.ensures in
    let F₅ = so_olss L s h K.0 _ X.1.all _ F₄ c.in_ok-ols_section.ensures in
    let b = no_buffers L s h K.0 _ X.1.many F₅ c.in_err-buffers.ensures in
    search (rules, b)

pub returns-in_err-extension_flag : goal.returns-in_err-extension_flag
returns-in_err-extension_flag g c =
    let L = g.S.Steps.laws in
    let s = c.args.steps.now in
    let h = header_of c.in_ok-h.h in
    let F₁ = so_header L s (rw c.in_ok-h.ensures.1 at c.in_ok-h.ensures.2) in
    let K = c.in_ok-closed.ensures in
    let F₂ = so_layers L s h F₁ K.2 in
    let X = c.in_ok-sets.ensures K.0.refs K.1 in
    let F₃ = so_sets L s h K.0 F₂ X.2 in
    let x : SetsRead = record { each_layer_flag = c.in_ok-sets.sets.each_layer_flag; mode_idc = c.in_ok-sets.sets.mode_idc; sets = X.0 } in
    let F₄ = so_ptls L s h K.0 x X.1.all F₃ c.in_ok-count.ensures in
    let F₅ = so_olss L s h K.0 x X.1.all _ F₄ c.in_ok-ols_section.ensures in
    let F₆ = so_buffers L s h K.0 x X.1.many F₅ c.in_ok-buffers.ensures in
    let b = no_flag L s h x _ F₆ c.in_err-extension_flag.ensures.goes in
    search (rules, b)

pub returns : goal.returns
returns g c =
    let L = g.S.Steps.laws in
    let s = c.args.steps.now in
    let h = header_of c.in_ok-h.h in
    let F₁ = so_header L s (rw c.in_ok-h.ensures.1 at c.in_ok-h.ensures.2) in
    let K = c.in_ok-closed.ensures in
    let F₂ = so_layers L s h F₁ K.2 in
    let X = c.in_ok-sets.ensures K.0.refs K.1 in
    let F₃ = so_sets L s h K.0 F₂ X.2 in
    let x : SetsRead = record { each_layer_flag = c.in_ok-sets.sets.each_layer_flag; mode_idc = c.in_ok-sets.sets.mode_idc; sets = X.0 } in
    let F₄ = so_ptls L s h K.0 x X.1.all F₃ c.in_ok-count.ensures in
    let F₅ = so_olss L s h K.0 x X.1.all _ F₄ c.in_ok-ols_section.ensures in
    let F₆ = so_buffers L s h K.0 x X.1.many F₅ c.in_ok-buffers.ensures in
    rw (c.place-layers.ensures, c.place-ptls.ensures, c.place-olss.ensures, c.place-extension.ensures) (so_done L s h x _ F₆ c.in_ok-extension_flag.ensures.goes)
