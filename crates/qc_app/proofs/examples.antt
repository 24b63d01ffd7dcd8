mod Arguments
mod Reports
mod Texts
